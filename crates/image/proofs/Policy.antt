-- What callers may use of an accepted image. Assumes nothing.
use Prim.Native.Nat.{ℕ, zero-le, ◌≤◌, ◌<◌}
use mathlib.Core.Path.{◌≡◌, refl, sym, ap, ◌∙◌, subst}
use mathlib.Core.Bool.{Bool, true, false, true≢false}
use mathlib.Core.List.{List}
use native.Mathlib.Omega.{arith}
use borrow.Author.Tests.{eqb-true, eq-eqb, ltb-true, ltb-false}
use lib.Dec.{eqb, ltb}
use lib.ListN.{length}
use Rattle.fields.specs.Names.{same_bytes, name_before}
use Rattle.fields.proofs.Both.{parts}
use Rattle.fields.proofs.Meaning.{same-means, same_refl, found_at, found_first, found-unique}
use Rattle.sets.specs.Sets.{within}
use Rattle.header.specs.declared.layout.Kind.{Kind}
use Rattle.header.specs.declared.layout.Kind.TheVariants.{Component, Label, User}
use Rattle.header.specs.Layout.{profile_of, edition_of, components, labels, users, groups, counts_of, class_at, count_of, component_record, label_record, user_record, records_of}
use Rattle.header.proofs.Inside.{records-count, record_of}
use Rattle.records.specs.Fields.{component_name, numeric_form, tag_of, user_name, read_groups, write_groups, default_groups, row_groups}
use Rattle.records.specs.Rules.{parent_count, record_rule}
use Rattle.records.proofs.MeaningBlocks.{records-kept}
use Rattle.records.proofs.MeaningComponents.{ComponentKept, ComponentAmong, component-means, numeric-rise, component-unique}
use Rattle.records.proofs.MeaningLabels.{LabelKept, LabelAmong, label-means, tags-rise, tag-unique}
use Rattle.records.proofs.MeaningUsers.{UserKept, UserAmong, user-means, names-rise, user-unique}
use Rattle.hierarchy.specs.Below.{below_sets, release_sets, sets_rule, group_sets_in, record_sets, forest_of, ends_rule, below, group_sets_rule}
use Rattle.header.specs.declared.profile.Profile.{Profile}
use Rattle.header.specs.declared.profile.Profile.TheVariants.{Tree, Release}
use Rattle.hierarchy.proofs.Under.{below-closed}
use Rattle.hierarchy.proofs.OfImage.{user-record}
use Rattle.image.specs.Check.{IsAccepted}
use Rattle.image.specs.Lookup.{label_of_tag, user_of_name}
use Rattle.image.proofs.Accepted.{keeps}

-- a user's groups lie below one another as the rule asks
pub record BelowKept (im rec : List ℕ) : Type 0 where
  pub write_below_read : within (write_groups (edition_of im) rec) (below im (read_groups (edition_of im) rec)) ≡ true
  pub default_below_read : within (default_groups (edition_of im) rec) (below im (read_groups (edition_of im) rec)) ≡ true
  pub row_below_default : within (row_groups (edition_of im) rec) (below im (default_groups (edition_of im) rec)) ≡ true
  pub row_below_write : within (row_groups (edition_of im) rec) (below im (write_groups (edition_of im) rec)) ≡ true

-- the rule of the sets that the record holds, by the profile
abbrev sets_in : Profile → List ℕ → List ℕ → Bool
sets_in p im rec =
    sets_rule p (forest_of im) (read_groups (edition_of im) rec) (write_groups (edition_of im) rec)
    (default_groups (edition_of im) rec) (row_groups (edition_of im) rec)

below-means : (im rec : List ℕ) → sets_in Tree im rec ≡ true → BelowKept im rec
unfolding below_sets
below-means im rec e =
    let q3 = parts _ _ e in
    let q2 = parts _ _ q3.0 in
    let q1 = parts _ _ q2.0 in
    record { write_below_read = q1.0; default_below_read = q1.1; row_below_default = q2.1; row_below_write = q3.1 }

below_holds : (im rec : List ℕ) → BelowKept im rec → sets_in Tree im rec ≡ true
unfolding below_sets
below_holds im rec k = rw (k.write_below_read, k.default_below_read, k.row_below_default, k.row_below_write)

-- in the release profile default groups contain the read groups and row groups the default groups, and write groups are the read groups
pub record ReleaseKept (im rec : List ℕ) : Type 0 where
  pub read_in_default : within (read_groups (edition_of im) rec) (default_groups (edition_of im) rec) ≡ true
  pub default_in_row : within (default_groups (edition_of im) rec) (row_groups (edition_of im) rec) ≡ true
  pub write_is_read : write_groups (edition_of im) rec ≡ read_groups (edition_of im) rec

release-means : (im rec : List ℕ) → sets_in Release im rec ≡ true → ReleaseKept im rec
unfolding release_sets
release-means im rec e =
    let q2 = parts _ _ e in
    let q1 = parts _ _ q2.0 in
    record { read_in_default = q1.0; default_in_row = q1.1; write_is_read = eqb-true _ _ q2.1 }

release-holds : (im rec : List ℕ) → ReleaseKept im rec → sets_in Release im rec ≡ true
unfolding release_sets
release-holds im rec k = rw (k.read_in_default, k.default_in_row, eq-eqb _ _ k.write_is_read)

-- by the profile
abbrev pub SetsKept : Profile → List ℕ → List ℕ → Type 0
SetsKept Tree = BelowKept
SetsKept Release = ReleaseKept

-- the rule of the user at place u
user-rule : (im : List ℕ) (u : ℕ) → u < users im → group_sets_rule im u ≡ sets_in (profile_of im) im (user_record im u)
unfolding group_sets_in record_sets
user-rule im u h = ap (sets_in (profile_of im) im) (user-record im u h)

pub sets-means : (im : List ℕ) (u : ℕ) → u < users im → group_sets_rule im u ≡ true → SetsKept (profile_of im) im (user_record im u)
sets-means im u h e = at (profile_of im) (sym (user-rule im u h) ∙ e)
  where
    at : (p : Profile) → sets_in p im (user_record im u) ≡ true → SetsKept p im (user_record im u)
    at Tree e = below-means im (user_record im u) e
    at Release e = release-means im (user_record im u) e

pub sets-holds : (im : List ℕ) (u : ℕ) → u < users im → SetsKept (profile_of im) im (user_record im u) → group_sets_rule im u ≡ true
sets-holds im u h k = user-rule im u h ∙ at (profile_of im) k
  where
    at : (p : Profile) → SetsKept p im (user_record im u) → sets_in p im (user_record im u) ≡ true
    at Tree k = below_holds im (user_record im u) k
    at Release k = release-holds im (user_record im u) k

module _ (im : List ℕ) (acc : IsAccepted im) where
  -- every record keeps its kind's rule, among the records of its kind
  pub record-kept : (kind : Kind) (i : ℕ) → i < count_of im kind → record_rule im kind i ≡ true
  record-kept = records-kept im (keeps im acc).contents

  pub component-among : (i : ℕ) → i < components im → ComponentAmong (counts_of im) (records_of im Component) i
  component-among i h = component-means (counts_of im) (records_of im Component) i (record-kept Component i h)

  pub label-among : (k : ℕ) → k < labels im → LabelAmong (counts_of im) (records_of im Label) k
  label-among k h = label-means (counts_of im) (records_of im Label) k (record-kept Label k h)

  pub user-among : (u : ℕ) → u < users im → UserAmong (counts_of im) (records_of im User) u
  user-among u h = user-means (counts_of im) (records_of im User) u (record-kept User u h)

  -- so each is what a record of its kind must be
  pub component-kept : (i : ℕ) → i < components im
      → ComponentKept (edition_of im) (class_at (counts_of im) i) (parent_count (counts_of im)) (component_record im i)
  component-kept i h =
      subst (ComponentKept (edition_of im) (class_at (counts_of im) i) (parent_count (counts_of im))) (record_of im Component i h) (component-among i h).kept

  pub label_kept : (k : ℕ) → k < labels im → LabelKept (counts_of im) (label_record im k)
  label_kept k h = subst (LabelKept (counts_of im)) (record_of im Label k h) (label-among k h).kept

  pub user-kept : (u : ℕ) → u < users im → UserKept (counts_of im) (user_record im u)
  user-kept u h = subst (UserKept (counts_of im)) (record_of im User u h) (user-among u h).kept

  pub user-sets : (u : ℕ) → u < users im → SetsKept (profile_of im) im (user_record im u)
  user-sets u h = sets-means im u h ((keeps im acc).below u h)

  -- tags, user names, and numeric forms inside a class rise strictly; class and name tell components apart
  listed : (kind : Kind) (i : ℕ) → i < count_of im kind → i < length (records_of im kind)
  listed kind i h = rw (records-count im kind) h

  unlisted : (kind : Kind) (i : ℕ) → i < length (records_of im kind) → i < count_of im kind
  unlisted kind i h = rw (records-count im kind) at h

  pub tags-rising : (j k : ℕ) → j < k → k < labels im → tag_of (label_record im j) < tag_of (label_record im k)
  tags-rising j k less high =
      let first : j < labels im = omega arith in
      rw (record_of im Label j first, record_of im Label k high) at
      (tags-rise (records_of im Label) (λ i h. (label-among i (unlisted Label i h)).rises) j k less (listed Label k high))

  tags-apart : (j k : ℕ) → j < labels im → k < labels im → tag_of (label_record im j) ≡ tag_of (label_record im k) → j ≡ k
  tags-apart j k hj hk e =
      tag-unique (records_of im Label) (λ i h. (label-among i (unlisted Label i h)).rises) j k (listed Label j hj) (listed Label k hk)
      (rw (record_of im Label j hj, record_of im Label k hk) e)

  pub names-rising : (j k : ℕ) → j < k → k < users im
      → name_before (user_name (user_record im j)) (user_name (user_record im k)) ≡ true
  names-rising j k less high =
      let first : j < users im = omega arith in
      rw (record_of im User j first, record_of im User k high) at
      (names-rise (records_of im User) (λ i h. (user-among i (unlisted User i h)).rises) j k less (listed User k high))

  users-apart : (j k : ℕ) → j < users im → k < users im → user_name (user_record im j) ≡ user_name (user_record im k) → j ≡ k
  users-apart j k hj hk e =
      user-unique (records_of im User) (λ i h. (user-among i (unlisted User i h)).rises) j k (listed User j hj) (listed User k hk)
      (rw (record_of im User j hj, record_of im User k hk) e)

  pub numeric-rising : (j k : ℕ) → class_at (counts_of im) j ≡ class_at (counts_of im) k → j < k → k < components im
      → numeric_form (component_record im j) < numeric_form (component_record im k)
  numeric-rising j k same less high =
      let first : j < components im = omega arith in
      rw (record_of im Component j first, record_of im Component k high) at
      (numeric-rise (counts_of im) (records_of im Component) (λ i h. (component-among i (unlisted Component i h)).rises) j k same less
      (listed Component k high))

  pub components-apart : (j k : ℕ) → j < components im → k < components im → class_at (counts_of im) j ≡ class_at (counts_of im) k
      → component_name (component_record im j) ≡ component_name (component_record im k) → j ≡ k
  components-apart j k hj hk same e =
      component-unique (counts_of im) (records_of im Component) (λ i h. (component-among i (unlisted Component i h)).name_new) j k
      (listed Component j hj) (listed Component k hk) same
      (rw (record_of im Component j hj, record_of im Component k hk) e)

  -- parents end, so that what lies below something below t lies below t
  pub parents-end : (g : ℕ) → g < groups im → ends_rule im g ≡ true
  parents-end = (keeps im acc).ends

  pub below-within : (s t : ℕ) → within s (below im t) ≡ true → within (below im s) (below im t) ≡ true
  below-within = below-closed (forest_of im) parents-end

  -- a look-up finds the one record that there is
  pub label-found : (k : ℕ) → k < labels im → label_of_tag im (tag_of (label_record im k)) ≡ k
  unfolding label_of_tag
  label-found k h =
      found-unique _ (labels im) 0 k zero-le (omega arith) (eq-eqb (tag_of (label_record im k)) _ refl)
      (λ j low high e. tags-apart j k (omega arith) h (eqb-true (tag_of (label_record im j)) (tag_of (label_record im k)) e))

  pub user-found : (u : ℕ) → u < users im → user_of_name im (user_name (user_record im u)) ≡ u
  unfolding user_of_name
  user-found u h =
      found-unique _ (users im) 0 u zero-le (omega arith) (same_refl (user_name (user_record im u)))
      (λ j low high e. users-apart j u (omega arith) h (same-means _ _ e))

-- what a look-up gives in any image: the place of a record that has what was asked for, or the number of records where none has it
module _ (im : List ℕ) where
  pub label-carries : (tag : ℕ) → label_of_tag im tag < labels im → tag_of (label_record im (label_of_tag im tag)) ≡ tag
  unfolding label_of_tag
  label-carries tag h = eqb-true (tag_of (label_record im (label_of_tag im tag))) tag
      (found_at (λ k. eqb (tag_of (label_record im k)) tag) (labels im) 0 (omega arith))

  pub label-missing : (tag : ℕ) → label_of_tag im tag ≡ labels im → (k : ℕ) → k < labels im → tag_of (label_record im k) ≡ tag → ⊥
  unfolding label_of_tag
  label-missing tag e k h q =
      true≢false
      (sym (eq-eqb (tag_of (label_record im k)) tag q)
      ∙ found_first (λ k. eqb (tag_of (label_record im k)) tag) (labels im) 0 k zero-le (omega arith))

  pub user-carries : (name : List ℕ) → user_of_name im name < users im → user_name (user_record im (user_of_name im name)) ≡ name
  unfolding user_of_name
  user-carries name h = same-means _ name (found_at (λ u. same_bytes (user_name (user_record im u)) name) (users im) 0 (omega arith))

  pub user-missing : (name : List ℕ) → user_of_name im name ≡ users im → (u : ℕ) → u < users im
      → same_bytes (user_name (user_record im u)) name ≡ false
  unfolding user_of_name
  user-missing name e u h = found_first (λ u. same_bytes (user_name (user_record im u)) name) (users im) 0 u zero-le (omega arith)

-- a tag that no label may carry, as 0 or any over 99,999,999, is unknown in an accepted image
pub tag-outside : (im : List ℕ) → IsAccepted im → (tag : ℕ) → (1 ≤ tag → 99999999 < tag) → labels im ≤ label_of_tag im tag
tag-outside im acc tag out = at (ltb (label_of_tag im tag) (labels im)) refl
  where
    at : (t : Bool) → ltb (label_of_tag im tag) (labels im) ≡ t → labels im ≤ label_of_tag im tag
    at true e =
        let h : label_of_tag im tag < labels im = ltb-true _ _ e in
        let k = label_kept im acc (label_of_tag im tag) h in
        let q = label-carries im tag h in
        let low : 1 ≤ tag = omega arith in
        absurd (omega (arith, out low))
    at false e = ltb-false _ _ e
