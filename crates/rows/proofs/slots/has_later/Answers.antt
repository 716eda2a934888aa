use mathlib.Core.Path.{sym, ◌∙◌}
use native.Mathlib.Nat.{add-sub_cancel_left}
use native.Mathlib.Omega.{arith}
use Rattle.rows.proofs.HeldTags.{held-free, search-found, search-on, search-end}
use Rattle.rows.proofs.slots.has_later.Goals as goal

pub loop-slot-init : goal.loop-slot-init
loop-slot-init c = (omega arith, rw add-sub_cancel_left)

pub returns-then-entry-eq0 : goal.returns-then-entry-eq0
returns-then-entry-eq0 c = sym (held-free _ _ _ _ c.if-entry-eq0.true) ∙ c.loop-slot.invariant.1

pub returns-then-entry-tag : goal.returns-then-entry-tag
returns-then-entry-tag c =
    sym (search-found _ _ _ _ c.loop-slot-test.true c.if-entry-eq0.false c.if-entry-tag.true) ∙ c.loop-slot.invariant.1

pub loop-slot-preserved : goal.loop-slot-preserved
loop-slot-preserved c =
    (omega arith, sym (search-on _ _ _ _ c.loop-slot-test.true c.if-entry-eq0.false c.if-entry-tag.false) ∙ c.loop-slot.invariant.1)

pub returns : goal.returns
returns c = sym (search-end _ _ _ _ c.loop-slot-test.false) ∙ c.loop-slot.invariant.1
