use Prim.Native.Nat.{◌+◌, ◌-◌, ◌*◌}
use Rattle.std.proofs.Common.{Ok}
use mathlib.Core.Path.{◌≡◌, sym, ap, ◌∙◌}
use native.Mathlib.Nat.{zero-add}
use native.Mathlib.Omega.{arith}
use Rattle.rows.specs.Masked.{masked_part}
use Rattle.rows.proofs.Answered.{masked-readable}
use Rattle.rows.proofs.masked_read.Goals as goal

pub row_offset-at-requires : goal.row_offset-at-requires
row_offset-at-requires c =
    let readable = masked-readable _ _ _ _ _ (sym c.masked_verdict.ensures ∙ c.in-Ok.is ∙ ap Ok c.if-not-readable.false) in
    omega (arith, readable.low, readable.inside)

pub overflow_add-result : goal.overflow_add-result
overflow_add-result c =
    let readable = masked-readable _ _ _ _ _ (sym c.masked_verdict.ensures ∙ c.in-Ok.is ∙ ap Ok c.if-not-readable.false) in
    omega (arith, c.row_offset-at.ensures, readable.low, readable.inside)

pub overflow_add-result-2 : goal.overflow_add-result-2
overflow_add-result-2 c =
    let readable = masked-readable _ _ _ _ _ (sym c.masked_verdict.ensures ∙ c.in-Ok.is ∙ ap Ok c.if-not-readable.false) in
    omega (arith, c.row_offset-at.ensures, readable.low, readable.inside)

pub slice_bounds-result-count-2 : goal.slice_bounds-result-count-2
slice_bounds-result-count-2 c =
    let readable = masked-readable _ _ _ _ _ (sym c.masked_verdict.ensures ∙ c.in-Ok.is ∙ ap Ok c.if-not-readable.false) in
    omega (arith, c.row_offset-at.ensures, readable.low, readable.inside)

pub slice_bounds-result-start-2 : goal.slice_bounds-result-start-2
slice_bounds-result-start-2 c =
    let readable = masked-readable _ _ _ _ _ (sym c.masked_verdict.ensures ∙ c.in-Ok.is ∙ ap Ok c.if-not-readable.false) in
    omega (arith, c.row_offset-at.ensures, readable.low, readable.inside)

pub slice_bounds-result-end-2 : goal.slice_bounds-result-end-2
slice_bounds-result-end-2 c =
    let readable = masked-readable _ _ _ _ _ (sym c.masked_verdict.ensures ∙ c.in-Ok.is ∙ ap Ok c.if-not-readable.false) in
    omega (arith, c.row_offset-at.ensures, readable.low, readable.inside)

pub returns-in_default : goal.returns-in_default
unfolding masked_part
returns-in_default c = rw (sym c.masked_verdict.ensures ∙ c.in_default.is)

pub returns-then-not-readable : goal.returns-then-not-readable
unfolding masked_part
returns-then-not-readable c = rw (sym c.masked_verdict.ensures ∙ c.in-Ok.is ∙ ap Ok c.if-not-readable.true)

pub returns : goal.returns
unfolding masked_part
returns c =
    let verdict = sym c.masked_verdict.ensures ∙ c.in-Ok.is ∙ ap Ok c.if-not-readable.false in
    let a = c.args in
    let readable = masked-readable _ _ _ _ _ verdict in
    let long : a.place * a.width + a.width - (a.place * a.width + 4) ≡ a.width - 4 = omega (arith, readable.low) in
    rw (verdict, c.row_offset-at.ensures, long, zero-add)
