use Rattle.std.proofs.Common.{ℕ, ◌+◌, ◌-◌, ◌*◌, ◌≤◌, ap₂, mul-le-mul, arith, rules}
use Rattle.blocks.specs.Columns.{term_of}
use Rattle.blocks.proofs.columns.column_term.Goals as goal

product : (w f : ℕ) → w ≤ 15 → f ≤ 510 → w * f ≤ 15 * 510
product w f low small = mul-le-mul low small

pub overflow_mul-result-2 : goal.overflow_mul-result-2
overflow_mul-result-2 c =
    let bound = product c.args.w c.fold-2.result (omega arith) (omega arith) in
    search rules

pub overflow_add-result : goal.overflow_add-result
overflow_add-result c =
    let bound = product c.args.w c.fold-2.result (omega arith) (omega arith) in
    search rules

pub overflow_add-result-2 : goal.overflow_add-result-2
overflow_add-result-2 c =
    let bound = product c.args.w c.fold-2.result (omega arith) (omega arith) in
    search rules

pub returns : goal.returns
unfolding term_of
returns c =
    let a = c.args in
    let bound = product a.w c.fold-2.result (omega arith) (omega arith) in
    (ap₂ (λ (x y : ℕ). 16 * x + a.w * y + (4080 - a.second)) c.fold.ensures.0 c.fold-2.ensures.0, omega arith)
