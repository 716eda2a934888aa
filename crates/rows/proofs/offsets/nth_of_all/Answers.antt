use Prim.Native.Nat.{◌/◌, min}
use mathlib.Core.Path.{◌≡◌, ap, ◌∙◌}
use native.Mathlib.Omega.{arith}
use lib.ListN.{length}
use Rattle.rows.specs.Run.{row_offset}
use Rattle.rows.proofs.Answered.{place_inside}
use Rattle.rows.proofs.EveryRow.{whole-offset}
use Rattle.rows.proofs.offsets.nth_of_all.Goals as goal

pub row_offset-requires : goal.row_offset-requires
row_offset-requires c =
    let a = c.args in
    omega (arith, place_inside a.run.now a.width a.n c.if-n-run.true)

pub returns-then-n-run : goal.returns-then-n-run
returns-then-n-run c =
    let a = c.args in
    let same : a.n ≡ min a.n (length a.run.now / a.width) = omega (arith, c.if-n-run.true) in
    c.row_offset.ensures ∙ ap (row_offset a.width) same

pub returns : goal.returns
returns c =
    let a = c.args in
    let same : length a.run.now / a.width ≡ min a.n (length a.run.now / a.width) = omega (arith, c.if-n-run.false) in
    whole-offset a.run.now a.width c.requires ∙ ap (row_offset a.width) same
