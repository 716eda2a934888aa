use Rattle.std.proofs.Common.{◌≡◌, ℕ, ◌+◌, ◌-◌, ap, ◌∙◌, arith}
use Rattle.fields.specs.Names.{in_letters}
use Rattle.fields.specs.Scan.{first_bad}
use Rattle.fields.proofs.Scan.{bad-upto}
use Rattle.records.specs.Rules.{other_name, others_named}
use Rattle.records.proofs.ComponentRuns.{block_inside, block-found}
use Rattle.records.proofs.components.first_in_block.Goals as goal

pub overflow_add-end : goal.overflow_add-end
overflow_add-end c =
    let p = c.requires in
    omega (arith, block_inside _ _ _ _ p.0 p.1.0 p.1.1.0 p.1.1.1)

pub slice_bounds-first_in_run-end : goal.slice_bounds-first_in_run-end
slice_bounds-first_in_run-end c =
    let p = c.requires in
    omega (arith, block_inside _ _ _ _ p.0 p.1.0 p.1.1.0 p.1.1.1)

pub overflow_add-result : goal.overflow_add-result
overflow_add-result c =
    let p = c.requires in
    let a = c.args in
    let name = in_letters a.letters a.name.now in
    let found : a.from + c.first_in_run.result ≡ first_bad (others_named a.image.now name) (a.to - a.from) a.from =
    ap (λ (n : ℕ). a.from + n) c.first_in_run.ensures ∙ block-found _ _ _ _ p.0 p.1.0 p.1.1.0 p.1.1.1 (other_name name) in
    omega (arith, found, bad-upto (others_named a.image.now name) (a.to - a.from) a.from)

pub returns : goal.returns
returns c =
    let p = c.requires in
    let a = c.args in
    ap (λ (n : ℕ). a.from + n) c.first_in_run.ensures
    ∙ block-found _ _ _ _ p.0 p.1.0 p.1.1.0 p.1.1.1 (other_name (in_letters a.letters a.name.now))
