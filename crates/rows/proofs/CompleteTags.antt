-- Slots filled with the tags that a map hands out. Assumes nothing.
use Prim.Native.Nat.{ℕ, zero, suc, ◌+◌, ◌≤◌, ◌<◌}
use mathlib.Core.Path.{◌≡◌, refl, sym, ap, ◌∙◌}
use mathlib.Core.Bool.{Bool, true, false, false≢true, cond}
use mathlib.Core.List.{List}
use mathlib.Core.Logic.{⊎_elim}
use native.Mathlib.Omega.{arith}
use borrow.Author.Tests.{lt-ltb, ltb-true}
use lib.Dec.{ltb}
use lib.ListN.{get_or, replicate, length-replicate}
use Rattle.fields.proofs.Both.{same_truth, below_or}
use Rattle.header.specs.Layout.{labels, label_record}
use Rattle.records.specs.Fields.{tag_of}
use Rattle.image.specs.Check.{IsAccepted}
use Rattle.image.specs.Lookup.{label_of_tag}
use Rattle.image.proofs.Policy.{label-found, label-carries}
use Rattle.access.specs.Verdicts.{known_tag}
use Rattle.maps.specs.Map.{bit_of}
use Rattle.rows.specs.Table.{row_tag}
use Rattle.rows.specs.Mapped.{tag_mapped, row_mapped}
use Rattle.rows.specs.Slots.{slot_count, own_slot, held, row_held, Added, Holding, Complete}
use Rattle.rows.proofs.HeldTags.{held-means}

abbrev zeros : ℕ → List ℕ
zeros n = replicate n 0

zeros-free : (n k : ℕ) → get_or (zeros n) k 0 ≡ 0
zeros-free zero k = refl
zeros-free (suc n) zero = refl
zeros-free (suc n) (suc k) = zeros-free n k

module _ (im bits : List ℕ) where
  -- ---- which tags are handed out
  -- that of a label record whose bit is set
  record-mapped : IsAccepted im → (p : ℕ) → p < labels im → tag_mapped im bits false (tag_of (label_record im p)) ≡ bit_of bits p
  unfolding tag_mapped known_tag
  record-mapped acc p h = rw (label-found im acc p h, lt-ltb p (labels im) h)

  -- and no others
  mapped-record : (tag : ℕ) → tag_mapped im bits false tag ≡ true → (label_of_tag im tag < labels im) × (bit_of bits (label_of_tag im tag) ≡ true)
  unfolding tag_mapped known_tag
  mapped-record tag e = at (ltb (label_of_tag im tag) (labels im)) refl e
    where
      at : (t : Bool) → ltb (label_of_tag im tag) (labels im) ≡ t → cond t (bit_of bits (label_of_tag im tag)) false ≡ true
          → (label_of_tag im tag < labels im) × (bit_of bits (label_of_tag im tag) ≡ true)
      at true d e = (ltb-true (label_of_tag im tag) (labels im) d, e)
      at false d e = absurd (false≢true e)

  -- ---- from label record to label record
  pub holding-start : Holding im bits 0 (zeros slot_count)
  holding-start =
      record {
        long = length-replicate {A = ℕ} slot_count 0;
        given = λ k some. absurd (some (zeros-free slot_count k));
        found = λ q h b. absurd (omega arith);
      }

  module _ (p : ℕ) (slots : List ℕ) (holding : Holding im bits p slots) where
    -- its bit is not set
    pub holding-pass : bit_of bits p ≡ false → Holding im bits (p + 1) slots
    holding-pass clear = record { long = holding.long; given = holding.given; found = one_more }
      where
        one_more : (q : ℕ) → q < p + 1 → bit_of bits q ≡ true → held slots (tag_of (label_record im q)) ≡ true
        one_more q h b =
            ⊎_elim
            (λ (less : q < p). holding.found q less b)
            (λ (more : p ≤ q). let e : p ≡ q = omega arith in absurd (false≢true (sym clear ∙ ap (bit_of bits) e ∙ b)))
            (below_or q p)

    -- its bit is set, and its tag was added
    pub holding-add : IsAccepted im → p < labels im → bit_of bits p ≡ true → (tag : ℕ) → tag ≡ tag_of (label_record im p) → (after : List ℕ)
        → Added tag slots after → Holding im bits (p + 1) after
    holding-add acc inside set tag is after added =
        record { long = added.long ∙ holding.long; given = entry; found = one_more }
      where
        mapped : tag_mapped im bits false tag ≡ true
        mapped = ap (tag_mapped im bits false) is ∙ record-mapped acc p inside ∙ set

        entry : (k : ℕ) → (get_or after k 0 ≡ 0 → ⊥) → tag_mapped im bits false (get_or after k 0) ≡ true
        entry k some =
            ⊎_elim
            (λ (e : get_or after k 0 ≡ get_or slots k 0).
            ap (tag_mapped im bits false) e ∙ holding.given k (λ z. some (e ∙ z)))
            (λ (e : get_or after k 0 ≡ tag). ap (tag_mapped im bits false) e ∙ mapped)
            (added.entries k)

        one_more : (q : ℕ) → q < p + 1 → bit_of bits q ≡ true → held after (tag_of (label_record im q)) ≡ true
        one_more q h b =
            ⊎_elim
            (λ (less : q < p). added.stays (tag_of (label_record im q)) (holding.found q less b))
            (λ (more : p ≤ q).
            let e : q ≡ p = omega arith in
            let same : tag_of (label_record im q) ≡ tag = ap (λ (k : ℕ). tag_of (label_record im k)) e ∙ sym is in
            ap (held after) same ∙ added.there)
            (below_or q p)

  -- ---- after the last
  pub holding-end : (slots : List ℕ) → Holding im bits (labels im) slots → Complete im bits slots
  holding-end slots holding tag = same_truth (held slots tag) (tag_mapped im bits false tag) only all
    where
      only : held slots tag ≡ true → tag_mapped im bits false tag ≡ true
      only = held-means (λ t. tag_mapped im bits false t ≡ true) slots holding.given 96 (own_slot tag) tag

      all : tag_mapped im bits false tag ≡ true → held slots tag ≡ true
      all e =
          let known = mapped-record tag e in
          ap (held slots) (sym (label-carries im tag known.0)) ∙ holding.found (label_of_tag im tag) known.0 known.1

  -- so the same rows pass
  pub row-held : (slots : List ℕ) → Complete im bits slots → (row : List ℕ) → row_held slots row ≡ row_mapped im bits false row
  row-held slots complete row = complete (row_tag row)
