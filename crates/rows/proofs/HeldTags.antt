-- Slots that hold tags: what a search from a slot on finds, and what adding a tag leaves. Assumes nothing.
use Prim.Native.Nat.{ℕ, zero, suc, ◌+◌, ◌-◌, ◌≤◌, ◌<◌}
use mathlib.Core.Path.{◌≡◌, refl, sym, ap, subst, ◌∙◌}
use mathlib.Core.Bool.{Bool, true, false, false≢true, not}
use mathlib.Core.List.{List}
use mathlib.Core.Logic.{◌⊎◌, inl, inr, ⊎_elim}
use native.Mathlib.Numerals.{add-one}
use native.Mathlib.Omega.{arith}
use borrow.Author.Tests.{eq-eqb, ne_eqb, eqb-true, eqb-false}
use lib.Dec.{eqb}
use lib.ListN.{length, get_or, set, length-set}
use lib.Seq.{get_or-set_same, get_or-set_other}
use Rattle.rows.specs.Slots.{own_slot, held_from, Added}

-- two numbers are equal or not
equal-or : (a b : ℕ) → (a ≡ b) ⊎ (a ≡ b → ⊥)
equal-or a b = at (eqb a b) refl
  where
    at : (t : Bool) → eqb a b ≡ t → (a ≡ b) ⊎ (a ≡ b → ⊥)
    at true e = inl (eqb-true a b e)
    at false e = inr (eqb-false a b e)

-- ---- a search from slot s on
module _ (slots : List ℕ) (s tag : ℕ) where
  pub held_none : held_from 0 slots s tag ≡ false
  unfolding held_from
  held_none = refl

  -- a free slot ends it
  pub held-free : (n : ℕ) → get_or slots s 0 ≡ 0 → held_from n slots s tag ≡ false
  unfolding held_from
  held-free zero e = refl
  held-free (suc n) e = rw (eq-eqb (get_or slots s 0) 0 e)

  module _ (n : ℕ) (some : get_or slots s 0 ≡ 0 → ⊥) where
    pub held-here : get_or slots s 0 ≡ tag → held_from (suc n) slots s tag ≡ true
    unfolding held_from
    held-here e = rw (ne_eqb (get_or slots s 0) 0 some, eq-eqb (get_or slots s 0) tag e)

    pub held_next : (get_or slots s 0 ≡ tag → ⊥) → held_from (suc n) slots s tag ≡ held_from n slots (suc s) tag
    unfolding held_from
    held_next other = rw (ne_eqb (get_or slots s 0) 0 some, ne_eqb (get_or slots s 0) tag other)

  -- where the slot has the tag, it is held unless it is 0
  pub held-own : (n : ℕ) → get_or slots s 0 ≡ tag → held_from (suc n) slots s tag ≡ not (eqb tag 0)
  held-own n e =
      ⊎_elim
      (λ (z : tag ≡ 0). held-free (suc n) (e ∙ z) ∙ sym (ap not (eq-eqb tag 0 z)))
      (λ (some : tag ≡ 0 → ⊥). held-here n (λ z. some (sym e ∙ z)) e ∙ sym (ap not (ne_eqb tag 0 some)))
      (equal-or tag 0)

-- ---- a loop that searches up to a slot
module _ (slots : List ℕ) (tag end slot : ℕ) where
  -- at least one slot is left
  left_one : slot < end → held_from (end - slot) slots slot tag ≡ held_from (suc (end - (slot + 1))) slots slot tag
  left_one h = let e : end - slot ≡ suc (end - (slot + 1)) = omega arith in ap (λ (n : ℕ). held_from n slots slot tag) e

  module _ (h : slot < end) (some : get_or slots slot 0 ≡ 0 → ⊥) where
    pub search-found : get_or slots slot 0 ≡ tag → held_from (end - slot) slots slot tag ≡ true
    search-found e = left_one h ∙ held-here slots slot tag (end - (slot + 1)) some e

    pub search-on : (get_or slots slot 0 ≡ tag → ⊥) → held_from (end - slot) slots slot tag ≡ held_from (end - (slot + 1)) slots (slot + 1) tag
    search-on other =
        left_one h ∙ held_next slots slot tag (end - (slot + 1)) some other
        ∙ ap (λ (s : ℕ). held_from (end - (slot + 1)) slots s tag) (sym (add-one slot))

  pub search-end : end ≤ slot → held_from (end - slot) slots slot tag ≡ false
  search-end h = let e : end - slot ≡ 0 = omega arith in ap (λ (n : ℕ). held_from n slots slot tag) e ∙ held_none slots slot tag

-- what is held stands in a slot: what holds of every entry but 0 holds of it
pub held-means : (P : ℕ → Type 0) (slots : List ℕ) → ((k : ℕ) → (get_or slots k 0 ≡ 0 → ⊥) → P (get_or slots k 0))
    → (n s tag : ℕ) → held_from n slots s tag ≡ true → P tag
held-means P slots every zero s tag h = absurd (false≢true (sym (held_none slots s tag) ∙ h))
held-means P slots every (suc n) s tag h = at (held-means P slots every n (suc s) tag)
  where
    at : (held_from n slots (suc s) tag ≡ true → P tag) → P tag
    at later =
        ⊎_elim
        (λ (free : get_or slots s 0 ≡ 0). absurd (false≢true (sym (held-free slots s tag (suc n) free) ∙ h)))
        (λ (some : get_or slots s 0 ≡ 0 → ⊥).
        ⊎_elim
        (λ (e : get_or slots s 0 ≡ tag). subst P e (every s some))
        (λ (other : get_or slots s 0 ≡ tag → ⊥). later (sym (held_next slots s tag n some other) ∙ h))
        (equal-or (get_or slots s 0) tag))
        (equal-or (get_or slots s 0) 0)

-- ---- a tag put into a free slot
module _ (slots : List ℕ) (slot tag : ℕ) (inside : slot < length slots) (free : get_or slots slot 0 ≡ 0) where
  abbrev after : List ℕ
  after = set slots slot tag

  put-here : (k : ℕ) → k ≡ slot → get_or after k 0 ≡ tag
  put-here k e = ap (λ (i : ℕ). get_or after i 0) e ∙ get_or-set_same slots slot tag 0 inside

  put-else : (k : ℕ) → (k ≡ slot → ⊥) → get_or after k 0 ≡ get_or slots k 0
  put-else k other = get_or-set_other slots slot k tag 0 other

  -- the search for a tag that is held passes no free slot, and so finds the same
  put-stays : (n s other : ℕ) → held_from n slots s other ≡ true → held_from n after s other ≡ true
  put-stays zero s other h = absurd (false≢true (sym (held_none slots s other) ∙ h))
  put-stays (suc n) s other h = at (put-stays n (suc s) other)
    where
      not_free : get_or slots s 0 ≡ 0 → ⊥
      not_free e = false≢true (sym (held-free slots s other (suc n) e) ∙ h)

      same : get_or after s 0 ≡ get_or slots s 0
      same = put-else s (λ e. not_free (ap (λ (k : ℕ). get_or slots k 0) e ∙ free))

      at : (held_from n slots (suc s) other ≡ true → held_from n after (suc s) other ≡ true) → held_from (suc n) after s other ≡ true
      at later =
          ⊎_elim
          (λ (e : get_or slots s 0 ≡ other). held-here after s other n (λ z. not_free (sym same ∙ z)) (same ∙ e))
          (λ (e : get_or slots s 0 ≡ other → ⊥).
          held_next after s other n (λ z. not_free (sym same ∙ z)) (λ z. e (sym same ∙ z))
          ∙ later (sym (held_next slots s other n not_free e) ∙ h))
          (equal-or (get_or slots s 0) other)

  module _ (some : 0 < tag) where
    -- the tag is found where the slots before it are not free
    put-there : (n s : ℕ) → s ≤ slot → slot < s + n → ((k : ℕ) → s ≤ k → k < slot → get_or slots k 0 ≡ 0 → ⊥) → held_from n after s tag ≡ true
    put-there zero s low high full = absurd (omega arith)
    put-there (suc n) s low high full =
        at (λ (less : s < slot). put-there n (suc s) less (omega arith) (λ k l h. full k (omega arith) h))
      where
        at : (s < slot → held_from n after (suc s) tag ≡ true) → held_from (suc n) after s tag ≡ true
        at later =
            ⊎_elim
            (λ (e : s ≡ slot). held-here after s tag n (λ z. let t = put-here s e in omega arith) (put-here s e))
            (λ (e : s ≡ slot → ⊥).
            let same = put-else s e in
            let less : s < slot = omega arith in
            let taken : get_or after s 0 ≡ 0 → ⊥ = λ z. full s (omega arith) less (sym same ∙ z) in
            ⊎_elim
            (λ (q : get_or after s 0 ≡ tag). held-here after s tag n taken q)
            (λ (q : get_or after s 0 ≡ tag → ⊥). held_next after s tag n taken q ∙ later less)
            (equal-or (get_or after s 0) tag))
            (equal-or s slot)

    pub added : own_slot tag ≤ slot → slot < own_slot tag + 96 → ((k : ℕ) → own_slot tag ≤ k → k < slot → get_or slots k 0 ≡ 0 → ⊥)
        → Added tag slots after
    added low high full =
        record {
          long = length-set slots slot tag;
          there = put-there 96 (own_slot tag) low high full;
          stays = λ (other : ℕ). put-stays 96 (own_slot other) other;
          entries = λ (k : ℕ). ⊎_elim (λ (e : k ≡ slot). inr (put-here k e)) (λ (e : k ≡ slot → ⊥). inl (put-else k e)) (equal-or k slot);
        }
