-- What is lent, as records for an image: where no fault is told of it, or every component names a class, there are as many components as the classes
-- have; where no fault is told, every record keeps its rule, and no count is past its limit. Assumes nothing.
use Rattle.std.proofs.Common.{Ok, Err}
use Prim.Native.Nat.{ℕ, ◌≤◌, ◌<◌}
use mathlib.Core.Path.{◌≡◌, refl}
use mathlib.Core.Bool.{Bool, true, false, cond}
use mathlib.Core.List.{List}
use native.Mathlib.Omega.{arith}
use borrow.Author.Tests.{ltb-false}
use lib.Dec.{ltb}
use lib.ListN.{length}
use Rattle.fields.proofs.Scan.{good-before}
use Rattle.header.specs.declared.edition.Edition.{Edition}
use Rattle.header.specs.declared.counts.Counts.{Counts}
use Rattle.header.specs.declared.layout.Kind.{Kind}
use Rattle.header.specs.declared.layout.Kind.TheVariants.{Component, Label, User}
use Rattle.header.specs.Layout.{edition_named, profile_named, record_size}
use Rattle.records.specs.Rules.{rule_of}
use Rattle.hierarchy.specs.Forest.{first_ring_in}
use Rattle.hierarchy.specs.Below.{forest_in, first_bad_sets}
use Rattle.writing.specs.declared.answers.LentFault.{LentFault}
use Rattle.writing.specs.declared.answers.LentFault.TheVariants.{Layout, Record, Ring}
use Rattle.writing.specs.Laid.{Sized, Fits}
use Rattle.writing.specs.Lent.{LentCheck, lent_records, lent_counts, lent_layout_rule, LentWhole, Classed, first_bad_of, fault_at, records_check, lent_check}
use Rattle.records.proofs.BlockRuns.{size-some}
use Rattle.writing.proofs.Runs.{run-sized}
use Rattle.writing.proofs.Totals.{counts_all, kept-all}
use Rattle.writing.proofs.LentLayout.{layout-means}

pub fault-sound : {f : LentFault} → ◌≡◌ {A = LentCheck} (Err f) (Ok tt) → ⊥
fault-sound {f} e = let z : ◌≡◌ {A = ℕ} 0 1 = cc in omega arith

pub fault-none : (place count : ℕ) (fault : ℕ → LentFault) (after : LentCheck) → fault_at place count fault after ≡ Ok tt → (count ≤ place) × (after ≡ Ok tt)
fault-none place count fault after = at (ltb place count) refl
  where
    at : (t : Bool) → ltb place count ≡ t → cond {A = LentCheck} t (Err (fault place)) after ≡ Ok tt → (count ≤ place) × (after ≡ Ok tt)
    at true e h = absurd (fault-sound h)
    at false e h = (ltb-false place count e, h)

-- ---- the records
module _ (n : Counts) (records : Kind → List (List ℕ)) (sound : records_check n records ≡ Ok tt) where
  -- each search ends past its places
  pub record Searched : Type 0 where
    pub kinds : (kind : Kind) → length (records kind) ≤ first_bad_of n records kind
    pub rings : n.groups ≤ first_ring_in (forest_in n (records Component))
    pub sets : length (records User) ≤ first_bad_sets n (records Component) (records User)

  pub searched : Searched
  unfolding records_check
  searched =
      let c = fault-none (first_bad_of n records Component) (length (records Component)) (Record Component) _ sound in
      let l = fault-none (first_bad_of n records Label) (length (records Label)) (Record Label) _ c.1 in
      let u = fault-none (first_bad_of n records User) (length (records User)) (Record User) _ l.1 in
      let r = fault-none (first_ring_in (forest_in n (records Component))) n.groups Ring _ u.1 in
      let s = fault-none (first_bad_sets n (records Component) (records User)) (length (records User)) (Record User) (Ok tt) r.1 in
      record { kinds = λ kind. by_kind kind c.0 l.0 u.0; rings = r.0; sets = s.0 }
    where
      by_kind : (kind : Kind) → length (records Component) ≤ first_bad_of n records Component → length (records Label) ≤ first_bad_of n records Label
          → length (records User) ≤ first_bad_of n records User → length (records kind) ≤ first_bad_of n records kind
      by_kind Component c l u = c
      by_kind Label c l u = l
      by_kind User c l u = u

  pub kept : (kind : Kind) (i : ℕ) → i < length (records kind) → rule_of kind n (records kind) i ≡ true
  kept kind i h =
      good-before (rule_of kind n (records kind)) (length (records kind)) 0 i (omega arith) (omega (arith, searched.kinds kind))

-- ---- what is lent
module _ (edition profile : ℕ) (bytes : Kind → List ℕ) where
  abbrev e : Edition
  e = edition_named edition

  abbrev records : Kind → List (List ℕ)
  records = lent_records e bytes

  abbrev n : Counts
  n = lent_counts e (profile_named profile) (records Component)

  lent-sizes : (kind : Kind) → Sized (record_size e kind) (records kind)
  lent-sizes kind = run-sized (record_size e kind) (size-some e kind) (bytes kind)

  pub classed-fits : Classed (lent_records (edition_named edition) bytes Component) → Fits n records
  classed-fits h = record { sizes = lent-sizes; components = counts_all e (profile_named profile) (records Component) h }

  -- past 31 it is the records' fault that is told
  pub layout-told : lent_layout_rule edition profile bytes ≡ true → lent_check edition profile bytes ≡ records_check n records
  unfolding lent_check
  layout-told h = rw h

  -- ---- where no fault is told
  module _ (sound : lent_check edition profile bytes ≡ Ok tt) where
    pub sound-parts : (lent_layout_rule edition profile bytes ≡ true) × (records_check n records ≡ Ok tt)
    unfolding lent_check
    sound-parts = at (lent_layout_rule edition profile bytes) refl sound
      where
        at : (t : Bool) → lent_layout_rule edition profile bytes ≡ t → cond t (records_check n records) (Err Layout) ≡ Ok tt
            → (lent_layout_rule edition profile bytes ≡ true) × (records_check n records ≡ Ok tt)
        at true q h = (q, h)
        at false q h = absurd (fault-sound h)

    pub sound-layout : LentWhole edition profile bytes
    sound-layout = layout-means edition profile bytes sound-parts.0

    pub sound-fits : Fits n records
    sound-fits =
        record {
          sizes = lent-sizes;
          components = kept-all e (profile_named profile) (records Component) (kept n records sound-parts.1 Component);
        }
