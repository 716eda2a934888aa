-- What the check of an image of edition 1 tells: it accepts exactly the accepted images of edition 1. Assumes nothing.
use Rattle.std.proofs.Common.{Ok, Err}
use Prim.Native.Nat.{ℕ, ◌<◌, zero-le}
use mathlib.Core.Path.{◌≡◌, refl, sym, ◌∙◌, subst}
use mathlib.Core.Bool.{Bool, true, false, cond, ◌&&◌, true≢false, and-false}
use mathlib.Core.List.{List}
use native.Mathlib.Nat.{zero-add}
use borrow.Author.Tests.{eq-eqb, eqb-true}
use lib.Dec.{eqb}
use Rattle.fields.proofs.Both.{parts}
use Rattle.fields.proofs.Scan.{all-good, good-before}
use Rattle.blocks.specs.Blocks.{length_rule, block_count, block_rule, first_bad_block}
use Rattle.header.specs.declared.edition.Edition.{Edition}
use Rattle.header.specs.declared.edition.Edition.TheVariants.{One, Two}
use Rattle.header.specs.Layout.{edition_of}
use Rattle.refusals.specs.declared.Refusal.TheVariants.{ImageLayout}
use Rattle.image.specs.Check.{IsAccepted, check_of}
use Rattle.image.specs.Exactly.{Framed}
use Rattle.image.proofs.Accepted.{keeps, refused-not}
use Rattle.moves.specs.Moving.{is_two, framed_two, old_check_of}

module _ (im : List ℕ) where
  -- an image of edition 2 that neither 1 nor 2 refuses is given 31, whatever else is wrong with it
  two-framed : Framed im → edition_of im ≡ Two → framed_two im ≡ true
  unfolding framed_two first_bad_block
  two-framed f e =
      let sound = all-good (block_rule im) (block_count im) 0 (λ b low high. f.blocks b (rw zero-add at high)) ∙ zero-add (block_count im) in
      rw (f.length, e, eq-eqb _ _ sound)

  pub framed-refused : Framed im → edition_of im ≡ Two → old_check_of im ≡ Err ImageLayout
  unfolding old_check_of
  framed-refused f e = rw (two-framed f e)

  -- and so is an accepted one
  framed : IsAccepted im → Framed im
  framed acc = let k = keeps im acc in record { length = k.length; blocks = k.blocks }

  pub new-refused : IsAccepted im → edition_of im ≡ Two → old_check_of im ≡ Err ImageLayout
  new-refused acc = framed-refused (framed acc)

  -- an image of edition 1 is answered as by the check
  pub one-checked : edition_of im ≡ One → old_check_of im ≡ check_of im
  unfolding old_check_of framed_two
  one-checked e = rw (e, and-false (length_rule im))

  -- and so is every image that 1 or 2 refuses
  pub unframed-checked : (Framed im → ⊥) → old_check_of im ≡ check_of im
  unfolding old_check_of framed_two
  unframed-checked not = at (length_rule im && is_two (edition_of im) && eqb (first_bad_block im) (block_count im)) refl
    where
      unbroken : first_bad_block im ≡ block_count im → (b : ℕ) → b < block_count im → block_rule im b ≡ true
      unbroken e b h = unfold first_bad_block in good-before (block_rule im) (block_count im) 0 b zero-le (subst (λ (n : ℕ). b < n) (sym e) h)

      at : (t : Bool) → (length_rule im && is_two (edition_of im) && eqb (first_bad_block im) (block_count im)) ≡ t
          → cond t (Err ImageLayout) (check_of im) ≡ check_of im
      at true e =
          let q2 = parts _ _ e in
          let q1 = parts _ _ q2.0 in
          absurd (not (record { length = q1.0; blocks = unbroken (eqb-true _ _ q2.1) }))
      at false e = refl

  edition-one : IsAccepted im → framed_two im ≡ false → edition_of im ≡ One
  edition-one acc f = at (edition_of im) refl
    where
      at : (e : Edition) → edition_of im ≡ e → e ≡ One
      at One q = refl
      at Two q = absurd (true≢false (sym (two-framed (framed acc) q) ∙ f))

  pub old-accepted : old_check_of im ≡ (Ok tt) → IsAccepted im × (edition_of im ≡ One)
  unfolding old_check_of
  old-accepted = at (framed_two im) refl
    where
      at : (t : Bool) → framed_two im ≡ t → cond t (Err ImageLayout) (check_of im) ≡ (Ok tt) → IsAccepted im × (edition_of im ≡ One)
      at true f e = absurd (refused-not ImageLayout e)
      at false f e = (e, edition-one e f)

  pub accepted-old : IsAccepted im → edition_of im ≡ One → old_check_of im ≡ Ok tt
  accepted-old acc e = one-checked e ∙ acc
