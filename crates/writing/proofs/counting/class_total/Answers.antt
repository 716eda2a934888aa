use Prim.Native.Nat.{◌/◌}
use mathlib.Core.Path.{sym, ap, ◌∙◌}
use native.Mathlib.Nat.{sub-zero, zero-add}
use native.Mathlib.Omega.{arith}
use lib.ListN.{length}
use Rattle.fields.proofs.PlacesWhere.{turn-here, turn-not, turn_end}
use Rattle.writing.specs.Lent.{class_total}
use Rattle.records.proofs.Parts.{run-count}
use Rattle.writing.proofs.counting.class_total.Invariants.{named}
use Rattle.writing.proofs.counting.class_total.Goals as goal
use Rattle.writing.proofs.counting.class_total.Goals.{then-names_class, else-names_class}

pub loop-i-init : goal.loop-i-init
loop-i-init c = (omega arith, rw (sub-zero, zero-add))

pub names_class-requires : goal.names_class-requires
names_class-requires c = omega (arith, c.loop-i-test.true)

pub loop-i-preserved : goal.loop-i-preserved
loop-i-preserved c =
    let inv = c.loop-i.invariant in
    let a = c.args in
    let n = length a.components.now / 40 in
    let i = c.loop-i.i in
    let test = named a.components.now a.class in
    let here = c.loop-i-test.true in
    let told = sym c.names_class.ensures in
    elim c.if-names_class.branch [
      | then-names_class w ↦ let step = ap length (turn-here test n i here (told ∙ w.if-names_class.true)) in (omega arith, omega arith)
      | else-names_class w ↦ let step = ap length (turn-not test n i here (told ∙ w.if-names_class.false)) in (omega arith, omega arith)
    ]

pub returns : goal.returns
unfolding class_total
returns c =
    let a = c.args in
    let n = length a.components.now / 40 in
    let none = ap length (turn_end (named a.components.now a.class) n c.loop-i.i c.loop-i-test.false) in
    rw (run-count 40 a.components.now) (omega (arith, c.loop-i.invariant.1))
