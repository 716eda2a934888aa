-- The place that a refused check tells fits 32 bits: there are at most 127 blocks, and at most 255 records in one. Assumes nothing.
use Rattle.std.proofs.Common.{Ok, Err}
use Prim.Native.Nat.{ℕ, ◌+◌, ◌-◌, ◌/◌, ◌^◌, ◌≤◌, ◌<◌}
use mathlib.Core.Path.{◌≡◌, refl, subst}
use mathlib.Core.Bool.{Bool, true, false, cond, ◌&&◌}
use mathlib.Core.List.{List}
use native.Mathlib.Omega.{arith}
use borrow.Author.Tests.{ltb-true}
use lib.Dec.{ltb}
use Rattle.fields.proofs.Both.{parts}
use Rattle.fields.proofs.Scan.{bad-upto}
use Rattle.blocks.specs.Blocks.{length_rule, block_count, first_bad_block}
use Rattle.blocks.proofs.Meaning.{length-means}
use Rattle.header.specs.declared.layout.Kind.{Kind}
use Rattle.header.specs.declared.layout.Kind.TheVariants as kind
use Rattle.header.specs.declared.edition.Edition.{Edition}
use Rattle.header.specs.declared.edition.Edition.TheVariants.{One, Two}
use Rattle.header.proofs.Editions.{counted-groups}
use Rattle.header.specs.Layout.{groups, users, components, blocks_for, blocks_needed, shape_of, kind_at, contents_of, edition_of, levels, compartments, labels, capacity_of}
use Rattle.header.specs.Header.{header_rule, fit_rule}
use Rattle.header.specs.Limits.{limits_in, Counted}
use Rattle.header.proofs.Inside.{shape-roomy, slot-below, block-among, blocks-among}
use Rattle.records.specs.Rules.{record_rule, layout_rule, first_bad_record}
use Rattle.records.proofs.MeaningHeader.{counted}
use Rattle.refusals.specs.declared.Refusal.{Refusal}
use Rattle.refusals.specs.declared.Refusal.TheVariants.{NoComponent}
use Rattle.refusals.specs.Refusals.{place_of}
use Rattle.refusals.specs.Answers.{on_checked, or_refuse, Checked}
use Rattle.hierarchy.specs.Below.{first_ring, first_bad_below}
use Rattle.image.specs.declared.faults.Fault.TheVariants.{Length, Block, Layout, Ring}
use Rattle.image.specs.Faults.{no_fault, fault_where, shown_as, record_fault, below_fault}
use Rattle.image.specs.Check.{fault_of, check_of}
use Rattle.image.specs.Walk.{first_bad_content, content_fault, counted_fault, found_fault}
use Rattle.image.specs.Lookup.{has_component, name_answer}
use Rattle.image.proofs.Told.{found-lowest}

-- ---- blocks and records are few
-- in either edition
blocks-most : (edition : Edition) (components users labels : ℕ) → components ≤ 96 + (limits_in edition).groups → users ≤ (limits_in edition).users
    → labels ≤ (limits_in edition).labels
    → 1 + blocks_for (capacity_of edition kind.Component) components + blocks_for (capacity_of edition kind.Label) labels
    + blocks_for (capacity_of edition kind.User) users < 128
unfolding blocks_for
blocks-most One components users labels c u l = omega arith
blocks-most Two components users labels c u l = omega arith

pub blocks-few : (im : List ℕ) → Counted im → blocks_needed im < 128
unfolding blocks_needed components
blocks-few im k =
    blocks-most (edition_of im) (levels im + compartments im + groups im) (users im) (labels im)
    (omega (arith, k.levels_limit, k.compartments_limit, k.groups_limit)) k.users_limit k.labels_limit

-- the place of a block's lowest bad record
pub slot-few : (im : List ℕ) (b : ℕ) → first_bad_record im b - (contents_of im b).from < 256
unfolding first_bad_record contents_of
slot-few im b =
    let c = contents_of im b in
    omega (arith, bad-upto (record_rule im c.kind) (c.to - c.from) c.from, (shape-roomy im (kind_at im b)).few)

-- ---- the place that an answer tells; 0 for an accepted image
abbrev place_told : Checked → ℕ
place_told (Ok tt) = 0
place_told (Err r) = place_of r

record-place : (k : Kind) (b r : ℕ) → b < 128 → r < 256 → place_told (shown_as (Err (record_fault k b r))) < 2 ^ 32
record-place kind.Component b r p q = omega arith
record-place kind.Label b r p q = omega arith
record-place kind.User b r p q = omega arith

content-place : (im : List ℕ) (b : ℕ) → b < 128 → place_told (shown_as (Err (content_fault im b))) < 2 ^ 32
unfolding content_fault
content-place im b h = at (layout_rule im b)
  where
    at : (t : Bool)
        → place_told (shown_as (Err (cond t (record_fault (contents_of im b).kind b (first_bad_record im b - (contents_of im b).from)) (Layout b)))) < 2 ^ 32
    at true = record-place (contents_of im b).kind b _ h (slot-few im b)
    at false = omega arith

-- the user's block is one of the image's
pub user-block-few : (im : List ℕ) → Counted im → (u : ℕ) → u < users im
    → (shape_of im kind.User).first + u / (shape_of im kind.User).capacity < 128
user-block-few im k u h =
    omega (arith, blocks-few im k, blocks-among im kind.User, block-among (shape_of im kind.User) (shape-roomy im kind.User) u h)

counted-place : (im : List ℕ) → Counted im → place_told (shown_as (counted_fault im)) < 2 ^ 32
unfolding counted_fault
counted-place im k =
    at (ltb (first_bad_content im) (blocks_needed im)) refl (ltb (first_ring im) (groups im)) refl (ltb (first_bad_below im) (users im)) refl
  where
    at : (c : Bool) → ltb (first_bad_content im) (blocks_needed im) ≡ c → (r : Bool) → ltb (first_ring im) (groups im) ≡ r
        → (u : Bool) → ltb (first_bad_below im) (users im) ≡ u
        → place_told (shown_as (fault_where c (content_fault im (first_bad_content im))
        (fault_where r (Ring (first_ring im)) (fault_where u (below_fault im (first_bad_below im)) no_fault)))) < 2 ^ 32
    at true e r d u f = content-place im (first_bad_content im) (omega (arith, ltb-true (first_bad_content im) (blocks_needed im) e, blocks-few im k))
    at false e true d u f = omega (arith, ltb-true (first_ring im) (groups im) d, counted-groups im k)
    at false e false d true f =
        omega (
          arith,
          user-block-few im k (first_bad_below im) (ltb-true (first_bad_below im) (users im) f),
          slot-below (shape_of im kind.User) (shape-roomy im kind.User) (first_bad_below im),
          (shape-roomy im kind.User).few,
        )
    at false e false d false f = omega arith

fault-place : (im : List ℕ) → place_told (shown_as (found_fault im)) < 2 ^ 32
unfolding found_fault
fault-place im = at (length_rule im) refl (ltb (first_bad_block im) (block_count im)) refl (header_rule im && fit_rule im) refl
  where
    block-few : length_rule im ≡ true → first_bad_block im < block_count im → first_bad_block im < 128
    block-few e h = unfold block_count in let k = length-means im e in omega arith

    at : (s : Bool) → length_rule im ≡ s → (t : Bool) → ltb (first_bad_block im) (block_count im) ≡ t → (h : Bool) → (header_rule im && fit_rule im) ≡ h
        → place_told (shown_as (cond s (fault_where t (Block (first_bad_block im)) (cond h (counted_fault im) (Err (Layout 0)))) (Err Length))) < 2 ^ 32
    at true e true d h f = omega (arith, block-few e (ltb-true (first_bad_block im) (block_count im) d))
    at true e false d true f = let p = parts _ _ f in counted-place im (counted im p.0 p.1)
    at true e false d false f = omega arith
    at false e t d h f = omega arith

pub check-place : (im : List ℕ) (r : Refusal) → check_of im ≡ Err r → place_of r < 2 ^ 32
unfolding check_of fault_of
check-place im r e = subst (λ (c : Checked). place_told c < 2 ^ 32) e (rw (found-lowest im) (fault-place im))

pub name-place : (im : List ℕ) (class place : ℕ) (r : Refusal) → name_answer im class place ≡ Err r → place_of r < 2 ^ 32
unfolding name_answer
name-place im class place r e = subst (λ (c : Checked). place_told c < 2 ^ 32) e (at (check_of im) refl (has_component im class place))
  where
    at : (c : Checked) → check_of im ≡ c → (t : Bool) → place_told (on_checked c Err (or_refuse t NoComponent (Ok tt))) < 2 ^ 32
    at (Ok tt) d true = omega arith
    at (Ok tt) d false = omega arith
    at (Err q) d t = check-place im q d
