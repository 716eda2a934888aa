-- What is lent past 31 is refused as the image laid out from it would be, where each component names a class; and a component that names none is
-- told as 32, at its place or at an earlier one. Assumes nothing.
use Rattle.std.proofs.Common.{Err}
use Prim.Native.Nat.{ℕ, zero-le, ◌≤◌, ◌<◌}
use mathlib.Core.Path.{◌≡◌, refl, sym, ap, ◌∙◌, subst}
use mathlib.Core.Bool.{Bool, true, false, true≢false}
use mathlib.Core.List.{List}
use native.Mathlib.Omega.{arith}
use borrow.Author.Tests.{lt-ltb, leb-true, leb-false}
use lib.Dec.{leb}
use lib.ListN.{length}
use Rattle.fields.proofs.Scan.{good-before, bad-is}
use Rattle.header.specs.declared.edition.Edition.{Edition}
use Rattle.header.specs.declared.counts.Counts.{Counts}
use Rattle.header.specs.declared.layout.Kind.{Kind}
use Rattle.header.specs.declared.layout.Kind.TheVariants.{Component, Label, User}
use Rattle.header.specs.Layout.{edition_named, profile_named}
use Rattle.records.specs.Rules.{record_in, rule_of}
use Rattle.records.proofs.MeaningComponents.{component-means}
use Rattle.refusals.specs.Answers.{number_given, checked_given}
use Rattle.image.specs.Check.{check_of}
use Rattle.writing.specs.declared.answers.LentFault.{LentFault}
use Rattle.writing.specs.declared.answers.LentFault.TheVariants.{Layout, Record, Ring}
use Rattle.writing.specs.Laid.{image_of}
use Rattle.writing.specs.Lent.{lent_records, lent_counts, Unclassed, Classed, LentWhole, first_bad_of, records_check, lent_check, fault_given}
use Rattle.writing.specs.Calls.{lent_image}
use Rattle.writing.specs.InBlocks.{in_blocks}
use Rattle.writing.proofs.Totals.{class-named}
use Rattle.writing.proofs.LentLayout.{layout-holds}
use Rattle.writing.proofs.SoundLent.{classed-fits, layout-told}
use Rattle.writing.proofs.ToldAlike.{told-alike}

-- ---- the number is that of the image's refusal
pub same_number : (im : List ℕ) (fault : LentFault) → number_given (checked_given (in_blocks im (Err fault))) ≡ number_given (fault_given fault)
same_number im Layout = refl
same_number im (Record Component i) = refl
same_number im (Record Label i) = refl
same_number im (Record User i) = refl
same_number im (Ring g) = refl

-- ---- among records, a component that names no class
module _ (n : Counts) (records : Kind → List (List ℕ)) (p : ℕ) (here : p < length (records Component)) where
  -- it breaks its rule
  unclassed-bad : Unclassed (record_in (records Component) p) → rule_of Component n (records Component) p ≡ false
  unclassed-bad other = at (rule_of Component n (records Component) p) refl
    where
      at : (t : Bool) → rule_of Component n (records Component) p ≡ t → t ≡ false
      at true q =
          absurd
          (other
          (subst (λ (class : ℕ). (1 ≤ class) × (class ≤ 3)) (sym (component-means n (records Component) p q).kept.classed) (class-named n p)))
      at false q = refl

  -- so the first component at fault stands no later
  bad-soon : rule_of Component n (records Component) p ≡ false → first_bad_of n records Component ≤ p
  bad-soon bad = at (leb (first_bad_of n records Component) p) refl
    where
      at : (t : Bool) → leb (first_bad_of n records Component) p ≡ t → first_bad_of n records Component ≤ p
      at true q = leb-true _ _ q
      at false q =
          absurd
          (true≢false
          (sym (good-before (rule_of Component n (records Component)) (length (records Component)) 0 p zero-le (leb-false _ _ q)) ∙ bad))

  -- and is told
  component-told : first_bad_of n records Component ≤ p → records_check n records ≡ Err (Record Component (first_bad_of n records Component))
  unfolding records_check
  component-told soon = rw (lt-ltb (first_bad_of n records Component) (length (records Component)) (omega arith))

-- ---- what is lent
module _ (edition profile : ℕ) (bytes : Kind → List ℕ) (whole : LentWhole edition profile bytes) where
  abbrev e : Edition
  e = edition_named edition

  abbrev records : Kind → List (List ℕ)
  records = lent_records e bytes

  abbrev n : Counts
  n = lent_counts e (profile_named profile) (records Component)

  -- past 31 it is the records' fault that is told
  after-layout : lent_check edition profile bytes ≡ records_check n records
  after-layout = layout-told edition profile bytes (layout-holds edition profile bytes whole)

  pub refused-alike : Classed (lent_records (edition_named edition) bytes Component)
      → check_of (lent_image edition profile bytes) ≡ in_blocks (lent_image edition profile bytes) (lent_check edition profile bytes)
  unfolding lent_image
  refused-alike classed =
      told-alike n records (classed-fits edition profile bytes classed) whole.limited ∙ ap (in_blocks (image_of n records)) (sym after-layout)

  -- ---- a component that names no class
  module _ (p : ℕ) (here : p < length (records Component)) (other : Unclassed (record_in (records Component) p)) where
    bad : rule_of Component n (records Component) p ≡ false
    bad = unclassed-bad n records p here other

    pub unknown-class : (i : ℕ) × ((i ≤ p) × (lent_check edition profile bytes ≡ Err (Record Component i)))
    unknown-class =
        let soon : first_bad_of n records Component ≤ p = bad-soon n records p here bad in
        (first_bad_of n records Component, (soon, after-layout ∙ component-told n records p here soon))

    -- it is the record that is told where all before it keep their rules
    pub unknown-told : ((j : ℕ) → j < p → rule_of Component n (records Component) j ≡ true) → lent_check edition profile bytes ≡ Err (Record Component p)
    unknown-told before =
        let first : first_bad_of n records Component ≡ p =
        bad-is (rule_of Component n (records Component)) (length (records Component)) 0 p zero-le (omega arith) (λ j low high. before j high) bad in
        after-layout ∙ component-told n records p here (omega arith) ∙ ap (λ (i : ℕ). Err (Record Component i)) first
