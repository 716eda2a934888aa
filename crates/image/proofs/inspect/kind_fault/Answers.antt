use Rattle.std.specs.Prelude.{Err}
use mathlib.Core.Path.{sym, ap, ◌∙◌}
use native.Mathlib.Omega.{arith}
use Rattle.header.proofs.Inside.{blocks-among}
use Rattle.records.specs.Kinds.{RecordBad}
use Rattle.image.proofs.Place.{blocks-few}
use Rattle.image.proofs.KindFaults.{none_found, layout-found, record-found, record-few}
use Rattle.image.proofs.inspect.kind_fault.Goals as goal

-- block and record fit 16 bits
pub overflow_cast-block : goal.overflow_cast-block
overflow_cast-block c =
    let a = c.args in
    let bad : RecordBad a.image.now a.kind c.in-Some-Record.b c.in-Some-Record.r =
    rw c.in-Some-Record.field-0-is at c.in-Some-Record.ensures in
    omega (arith, bad.block.high, blocks-among a.image.now a.kind, blocks-few a.image.now c.requires.0)

pub overflow_cast-slot : goal.overflow_cast-slot
overflow_cast-slot c =
    let bad = rw c.in-Some-Record.field-0-is at c.in-Some-Record.ensures in
    omega (arith, record-few _ _ _ _ bad)

pub returns-in-None : goal.returns-in-None
returns-in-None c = sym (none_found _ _ c.in-None.ensures)

pub returns-in-Some-Layout : goal.returns-in-Some-Layout
returns-in-Some-Layout c = sym (layout-found _ _ _ (rw c.in-Some-Layout.field-0-is at c.in-Some-Layout.ensures))

pub returns-in-Some-Record : goal.returns-in-Some-Record
returns-in-Some-Record c =
    ap Err c.record_fault.ensures ∙ sym (record-found _ _ _ _ (rw c.in-Some-Record.field-0-is at c.in-Some-Record.ensures))
