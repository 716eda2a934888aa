-- When the writer refuses what is lent, and with which fault. Assumes nothing.
use Rattle.writing.specs.declared.answers.WriteRefusal.TheVariants.{Lent}
use Rattle.std.proofs.Common.{Ok, Err}
use Rattle.refusals.specs.Answers.{Checked, Amount}
use Prim.Native.Nat.{ℕ}
use mathlib.Core.Path.{◌≡◌, refl, sym, ap, ◌∙◌}
use mathlib.Core.Bool.{Bool, true, false, cond, true≢false}
use mathlib.Core.List.{List}
use mathlib.Core.Logic.{◌↔◌}
use native.Mathlib.Omega.{arith}
use lib.Dec.{ltb}
use lib.ListN.{length}
use Rattle.refusals.specs.declared.Refusal.{Refusal}
use Rattle.refusals.specs.declared.Refusal.TheVariants.{ImageLayout, ParentRing}
use Rattle.header.specs.declared.counts.Counts.{Counts}
use Rattle.header.specs.declared.layout.Kind.{Kind}
use Rattle.header.specs.declared.layout.Kind.TheVariants.{Component, Label, User}
use Rattle.header.specs.Layout.{edition_named, profile_named}
use Rattle.hierarchy.specs.Forest.{first_ring_in}
use Rattle.hierarchy.specs.Below.{forest_in, first_bad_sets}
use Rattle.image.specs.Check.{check_of}
use Rattle.writing.specs.declared.answers.LentFault.{LentFault}
use Rattle.writing.specs.declared.answers.LentFault.TheVariants.{Layout, Record, Ring}
use Rattle.writing.specs.Lent.{LentCheck, bytes_by, lent_records, lent_counts, lent_layout_rule, LentWhole}
use Rattle.writing.specs.Lent.{Classed, first_bad_of, fault_at, records_check, lent_check}
use Rattle.writing.specs.Calls.{WriteAnswer, written_answer, lent_image, on_sound, image_to, write_of}
use Rattle.writing.specs.InBlocks.{in_blocks}
use Rattle.writing.proofs.LentLayout.{layout-means, layout-holds}
use Rattle.writing.proofs.RefusedAlike as alike

-- ---- faults of records and of groups are none of the layout
record-no : {kind : Kind} {i : ℕ} → Record kind i ≡ Layout → ⊥
record-no {kind} {i} e = let z : ◌≡◌ {A = ℕ} 0 1 = cc in omega arith

ring-no : {g : ℕ} → Ring g ≡ Layout → ⊥
ring-no {g} e = let z : ◌≡◌ {A = ℕ} 0 1 = cc in omega arith

fault-same : {f g : LentFault} → ◌≡◌ {A = LentCheck} (Err f) (Err g) → f ≡ g
fault-same {f} {g} e = cc

sound-no : {f : LentFault} → ◌≡◌ {A = LentCheck} (Ok tt) (Err f) → ⊥
sound-no {f} e = let z : ◌≡◌ {A = ℕ} 0 1 = cc in omega arith

told-later : (place count : ℕ) (fault : ℕ → LentFault) (after : LentCheck) → (fault place ≡ Layout → ⊥)
    → (after ≡ Err Layout → ⊥) → fault_at place count fault after ≡ Err Layout → ⊥
told-later place count fault after other later = at (ltb place count)
  where
    at : (t : Bool) → cond {A = LentCheck} t (Err (fault place)) after ≡ Err Layout → ⊥
    at true e = other (fault-same e)
    at false e = later e

-- so the rules of records never give 31
records-no : (n : Counts) (records : Kind → List (List ℕ)) → records_check n records ≡ Err Layout → ⊥
unfolding records_check
records-no n records =
    told-later (first_bad_of n records Component) (length (records Component)) (Record Component) _ record-no
    (told-later (first_bad_of n records Label) (length (records Label)) (Record Label) _ record-no
    (told-later (first_bad_of n records User) (length (records User)) (Record User) _ record-no
    (told-later (first_ring_in (forest_in n (records Component))) n.groups Ring _ ring-no
    (told-later (first_bad_sets n (records Component) (records User)) (length (records User)) (Record User) (Ok tt) record-no sound-no))))

-- ---- a fault in blocks is a refusal
refused-no : {r : Refusal} → ◌≡◌ {A = Checked} (Err r) (Ok tt) → ⊥
refused-no {r} e = let z : ◌≡◌ {A = ℕ} 0 1 = cc in omega arith

blocks-refused : (im : List ℕ) (fault : LentFault) → (r : Refusal) × (in_blocks im (Err fault) ≡ Err r)
blocks-refused im Layout = (ImageLayout, refl)
blocks-refused im (Record kind i) = (_, refl)
blocks-refused im (Ring g) = (ParentRing g, refl)

-- ---- the call
image-refused : (f : Amount) {fault : LentFault} → written_answer f ≡ Err (Lent fault) → ⊥
image-refused (Ok n) {fault} e = let z : ◌≡◌ {A = ℕ} 0 1 = cc in omega arith
image-refused (Err r) {fault} e = let z : ◌≡◌ {A = ℕ} 0 1 = cc in omega arith

refused-same : {f g : LentFault} → ◌≡◌ {A = WriteAnswer} (Err (Lent f)) (Err (Lent g)) → f ≡ g
refused-same {f} {g} e = cc

module _ (edition profile : ℕ) (components labels users buffer : List ℕ) where
  abbrev bytes : Kind → List ℕ
  bytes = bytes_by components labels users

  abbrev image : List ℕ
  image = lent_image edition profile bytes

  abbrev records : Kind → List (List ℕ)
  records = lent_records (edition_named edition) bytes

  pub refused-by : (fault : LentFault) → lent_check edition profile bytes ≡ Err fault
      → write_of edition profile components labels users buffer ≡ (Err (Lent fault), buffer)
  unfolding write_of
  refused-by fault faulty = rw faulty

  pub refused-for : (fault : LentFault) → write_of edition profile components labels users buffer ≡ (Err (Lent fault), buffer)
      → lent_check edition profile bytes ≡ Err fault
  unfolding write_of
  refused-for fault = at (lent_check edition profile bytes)
    where
      at : (c : LentCheck) → on_sound {A = WriteAnswer × List ℕ} c (λ f. (Err (Lent f), buffer)) (image_to buffer image) ≡ (Err (Lent fault), buffer)
          → c ≡ Err fault
      at (Ok _) q = absurd (image-refused _ (ap (λ (p : WriteAnswer × List ℕ). p.0) q))
      at (Err f) q = ap Err (refused-same (ap (λ (p : WriteAnswer × List ℕ). p.0) q))

  -- ---- 31
  layout-false : lent_check edition profile bytes ≡ Err Layout → lent_layout_rule edition profile bytes ≡ false
  unfolding lent_check
  layout-false = at (lent_layout_rule edition profile bytes)
    where
      at : (t : Bool)
          → cond t (records_check (lent_counts (edition_named edition) (profile_named profile) (records Component)) records) (Err Layout) ≡ Err Layout
          → t ≡ false
      at true e = absurd (records-no (lent_counts (edition_named edition) (profile_named profile) (records Component)) records e)
      at false e = refl

  not-whole : (LentWhole edition profile bytes → ⊥) → lent_check edition profile bytes ≡ Err Layout
  unfolding lent_check
  not-whole never = at (lent_layout_rule edition profile bytes) refl
    where
      at : (t : Bool) → lent_layout_rule edition profile bytes ≡ t
          → cond t (records_check (lent_counts (edition_named edition) (profile_named profile) (records Component)) records) (Err Layout) ≡ Err Layout
      at true e = absurd (never (layout-means edition profile bytes e))
      at false e = refl

  pub layout-exactly : (write_of edition profile components labels users buffer ≡ (Err (Lent Layout), buffer)) ↔ (LentWhole edition profile bytes → ⊥)
  layout-exactly = (
    (λ e whole. true≢false (sym (layout-holds edition profile bytes whole) ∙ layout-false (refused-for Layout e))),
    (λ never. refused-by Layout (not-whole never)),
  )

  -- ---- 32 to 35
  module _ (whole : LentWhole edition profile bytes) (classed : Classed (lent_records (edition_named edition) bytes Component)) where
    pub refused-alike : (fault : LentFault) → write_of edition profile components labels users buffer ≡ (Err (Lent fault), buffer)
        → check_of image ≡ in_blocks image (Err fault)
    refused-alike fault e = alike.refused-alike edition profile bytes whole classed ∙ ap (in_blocks image) (refused-for fault e)

    pub refused-exactly : ((fault : LentFault) × (write_of edition profile components labels users buffer ≡ (Err (Lent fault), buffer)))
        ↔ ((r : Refusal) × (check_of image ≡ Err r))
    refused-exactly = (there, λ p. back (lent_check edition profile bytes) refl p.0 p.1)
      where
        there : ((fault : LentFault) × (write_of edition profile components labels users buffer ≡ (Err (Lent fault), buffer)))
            → (r : Refusal) × (check_of image ≡ Err r)
        there (fault, e) = let q = blocks-refused image fault in (q.0, refused-alike fault e ∙ q.1)

        back : (c : LentCheck) → lent_check edition profile bytes ≡ c → (r : Refusal) → check_of image ≡ Err r
            → (fault : LentFault) × (write_of edition profile components labels users buffer ≡ (Err (Lent fault), buffer))
        back (Ok _) sound r e =
            absurd (refused-no (sym e ∙ alike.refused-alike edition profile bytes whole classed ∙ ap (in_blocks image) sound))
        back (Err fault) faulty r e = (fault, refused-by fault faulty)
