use Prim.Native.Nat.{ℕ, suc, ◌+◌}
use mathlib.Core.Path.{◌≡◌, sym, ap, ◌∙◌}
use mathlib.Core.List.{List}
use native.Mathlib.Numerals.{add-one}
use lib.ListN.{get_or}
use Rattle.rows.specs.Slots.{own_slot, held_from}
use Rattle.rows.proofs.HeldTags.{held-free, held_next, held-own}
use Rattle.rows.proofs.slots.has.Goals as goal

own-entry : (slots : List ℕ) (s own : ℕ) → s ≡ own → get_or slots own 0 ≡ get_or slots s 0
own-entry slots s own e = ap (λ (k : ℕ). get_or slots k 0) (sym e)

pub returns-then-entry-tag : goal.returns-then-entry-tag
returns-then-entry-tag c =
    let a = c.args in
    sym (held-own a.slots.now (own_slot a.tag) a.tag 95 (own-entry a.slots.now _ _ c.slot_of-slot.ensures.0 ∙ c.if-entry-tag.true))

pub returns-then-entry-eq0 : goal.returns-then-entry-eq0
returns-then-entry-eq0 c =
    let a = c.args in
    sym (held-free a.slots.now (own_slot a.tag) a.tag 96 (own-entry a.slots.now _ _ c.slot_of-slot.ensures.0 ∙ c.if-entry-eq0.true))

pub returns : goal.returns
returns c =
    let a = c.args in
    let slots = a.slots.now in
    let is = c.slot_of-slot.ensures.0 in
    let entry = own-entry slots _ _ is in
    let next : c.slot_of-slot.result + 1 ≡ suc (own_slot a.tag) = add-one _ ∙ ap suc is in
    c.has_later.ensures ∙ ap (λ (s : ℕ). held_from 95 slots s a.tag) next
    ∙ sym (held_next slots (own_slot a.tag) a.tag 95 (λ e. c.if-entry-eq0.false (sym entry ∙ e)) (λ e. c.if-entry-tag.false (sym entry ∙ e)))
