-- A name of label text compared with an image's by parts. Assumes nothing.
use Prim.Native.Nat.{ℕ, zero-le, ◌+◌, ◌≤◌, ◌<◌}
use mathlib.Core.Path.{◌≡◌, refl, sym, ap, ◌∙◌}
use mathlib.Core.Bool.{Bool, true, false}
use mathlib.Core.List.{List}
use native.Mathlib.Nat.{zero-add}
use native.Mathlib.Omega.{arith}
use borrow.Author.Tests.{eq-eqb, eqb-true}
use lib.ListN.{length, get_or}
use lib.Seq.{ext_get_or}
use Rattle.fields.specs.Scan.{everywhere}
use Rattle.fields.specs.Names.{same_bytes, folded_name}
use Rattle.fields.specs.Folded.{same_folded_at}
use Rattle.fields.proofs.Meaning.{same-means, same_refl}
use Rattle.fields.proofs.Folding.{folded-length, folded-at}
use Rattle.fields.proofs.Scan.{everywhere-at}
use Rattle.fields.proofs.Everywhere.{everywhere-holds, everywhere-within, everywhere-outside, everywhere-join}

module _ (a b : List ℕ) (same : length a ≡ length b) where
  -- the names are the same exactly if they are so at each place
  same-everywhere : same_bytes a (folded_name b) ≡ everywhere (same_folded_at a b) (length a) 0
  same-everywhere = at (same_bytes a (folded_name b)) refl (everywhere (same_folded_at a b) (length a) 0) refl
    where
      equal : everywhere (same_folded_at a b) (length a) 0 ≡ true → a ≡ folded_name b
      equal e =
          ext_get_or 0 a (folded_name b) (same ∙ sym (folded-length b))
          (λ i h.
          let inside : i < length b = omega arith in
          eqb-true _ _ (everywhere-at (same_folded_at a b) (length a) 0 i e zero-le (omega arith)) ∙ sym (folded-at b i inside))

      each : a ≡ folded_name b → everywhere (same_folded_at a b) (length a) 0 ≡ true
      each e =
          everywhere-holds (same_folded_at a b) (length a) 0
          (λ i low high.
          let inside : i < length b = omega arith in
          eq-eqb _ _ (ap (λ (s : List ℕ). get_or s i 0) e ∙ folded-at b i inside))

      at : (s : Bool) → same_bytes a (folded_name b) ≡ s → (t : Bool) → everywhere (same_folded_at a b) (length a) 0 ≡ t → s ≡ t
      at true e t d = sym (each (same-means a (folded_name b) e)) ∙ d
      at false e true d = sym e ∙ ap (λ (s : List ℕ). same_bytes s (folded_name b)) (equal d) ∙ same_refl (folded_name b)
      at false e false d = refl

  -- a part that differs
  pub part-differs : (n i : ℕ) → i + n ≤ length a → everywhere (same_folded_at a b) n i ≡ false → false ≡ same_bytes a (folded_name b)
  part-differs n i h e = sym (same-everywhere ∙ everywhere-outside (same_folded_at a b) (length a) 0 n i zero-le (omega arith) e)

  -- a part that is the same, after i bytes that are
  pub part_same : (n i : ℕ) → everywhere (same_folded_at a b) i 0 ≡ true → everywhere (same_folded_at a b) n i ≡ true
      → everywhere (same_folded_at a b) (i + n) 0 ≡ true
  part_same n i before e =
      sym (everywhere-join (same_folded_at a b) i n 0 before) ∙ ap (everywhere (same_folded_at a b) n) (zero-add i) ∙ e

  -- the last n bytes decide, where those before them are the same
  pub last-decides : (i n last : ℕ) → last ≤ i → last + n ≡ length a → everywhere (same_folded_at a b) i 0 ≡ true
      → everywhere (same_folded_at a b) n last ≡ same_bytes a (folded_name b)
  last-decides i n last h whole e =
      let before = everywhere-within (same_folded_at a b) i 0 last 0 zero-le (omega arith) e in
      ap (everywhere (same_folded_at a b) n) (sym (zero-add last)) ∙ everywhere-join (same_folded_at a b) last n 0 before
      ∙ ap (λ (m : ℕ). everywhere (same_folded_at a b) m 0) whole ∙ sym same-everywhere
