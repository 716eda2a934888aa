use Prim.Native.Nat.{◌+◌, ◌-◌, ◌≤◌}
use mathlib.Core.Path.{sym, ◌∙◌}
use native.Mathlib.Omega.{arith}
use lib.ListN.{length}
use Rattle.fields.proofs.Scan.{bad-from}
use Rattle.labels.specs.States.{text_byte_at}
use Rattle.labels.proofs.Reading.{after-step, after-done}
use Rattle.labels.proofs.Runs.{name-step, run_step}
use Rattle.labels.proofs.shape.after_all.Goals as goal

pub loop-i-smaller-then-text_byte : goal.loop-i-smaller-then-text_byte
loop-i-smaller-then-text_byte c =
    let text = c.args.text.now in
    let i = c.loop-i.i in
    omega (arith, bad-from (text_byte_at text) (length text - (i + 1)) (i + 1))

pub loop-i-preserved-then-text_byte : goal.loop-i-preserved-then-text_byte
loop-i-preserved-then-text_byte c =
    let text = c.args.text.now in
    let l = c.loop-i in
    let named = sym c.text_byte.ensures ∙ c.if-text_byte.true in
    let first = name-step text l.state _ l.i c.loop-i-test.true named l.invariant in
    let inside : l.i + 1 ≤ length text = omega arith in
    rw c.after_name_byte-state.ensures (run_step text l.state _ (l.i + 1) _ inside c.first_stop-i.ensures first)

pub loop-i-preserved : goal.loop-i-preserved
loop-i-preserved c =
    rw c.after_byte-state.ensures (after-step _ _ _ _ c.loop-i-test.true c.loop-i.invariant)

pub returns : goal.returns
returns c = after-done _ _ _ _ c.loop-i-test.false c.loop-i.invariant
