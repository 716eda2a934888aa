-- The place that the writer tells fits the 32 bits that it has in a C function's number: within their limits there are few records, and a component
-- that breaks a rule stands no later than right after those that are counted. Assumes nothing.
use Rattle.std.proofs.Common.{Result, Ok, Err}
use Rattle.std.specs.Prelude.{⊤}
use Prim.Native.Nat.{ℕ, ◌^◌, ◌<◌}
use mathlib.Core.Path.{◌≡◌, refl}
use mathlib.Core.Bool.{Bool, true, false, cond}
use mathlib.Core.List.{List, flatten}
use native.Mathlib.Omega.{arith}
use borrow.Author.Tests.{ltb-true}
use lib.Dec.{ltb}
use lib.ListN.{length}
use Rattle.refusals.specs.Answers.{on_checked, PlaceFits, Amount, Checked, amount_given}
use Rattle.buffers.specs.Filling.{unfilled, written_to}
use Rattle.header.specs.declared.counts.Counts.{Counts}
use Rattle.header.specs.declared.layout.Kind.{Kind}
use Rattle.header.specs.declared.layout.Kind.TheVariants.{Component, Label, User}
use Rattle.header.specs.Layout.{edition_named, profile_named, records_of}
use Rattle.header.proofs.Editions.{most-groups}
use Rattle.hierarchy.specs.Forest.{first_ring_in}
use Rattle.hierarchy.specs.Below.{forest_in, first_bad_sets}
use Rattle.image.specs.Check.{check_of}
use Rattle.writing.specs.declared.answers.LentFault.{LentFault}
use Rattle.writing.specs.declared.answers.LentFault.TheVariants.{Layout, Record, Ring}
use Rattle.writing.specs.declared.answers.WriteRefusal.TheVariants as refusal
use Rattle.writing.specs.Lent.{bytes_by, lent_records, lent_counts, lent_layout_rule, first_bad_of, fault_at, records_check, lent_check, fault_given}
use Rattle.writing.specs.Calls.{WriteAnswer, written_answer, lent_image, on_sound, image_to, write_of, write_given, records_given_of}
use Rattle.writing.proofs.Totals.{bad-soon}
use Rattle.writing.proofs.LentLayout.{layout-means}
use Rattle.writing.proofs.FewRecords.{few-labels, few-users}
use Rattle.abi.proofs.Places.{image-fits, written-fits}

-- what a check gives back
abbrev Fits : Result ⊤ LentFault → Type 0
Fits (Ok sound) = 0 < 2 ^ 32
Fits (Err f) = PlaceFits (fault_given f)

fault-fits : (place count : ℕ) (fault : ℕ → LentFault) (after : Result ⊤ LentFault) → (place < count → PlaceFits (fault_given (fault place))) → Fits after
    → Fits (fault_at place count fault after)
fault-fits place count fault after here later = at (ltb place count) refl
  where
    at : (t : Bool) → ltb place count ≡ t → Fits (cond t (Err (fault place)) after)
    at true e = here (ltb-true place count e)
    at false e = later

module _ (edition profile : ℕ) (bytes : Kind → List ℕ) where
  abbrev records : Kind → List (List ℕ)
  records = lent_records (edition_named edition) bytes

  abbrev n : Counts
  n = lent_counts (edition_named edition) (profile_named profile) (records Component)

  records-fit : lent_layout_rule edition profile bytes ≡ true → Fits (records_check n records)
  unfolding records_check
  records-fit rule =
      let l = (layout-means edition profile bytes rule).limited in
      let labels = few-labels n _ _ l in
      let users = few-users n _ _ l in
      let groups = most-groups n.edition in
      let soon = bad-soon (edition_named edition) (profile_named profile) (records Component) in
      fault-fits (first_bad_of n records Component) (length (records Component)) (Record Component) _
      (λ h. omega (arith, l.levels_limit, l.compartments_limit, l.groups_limit))
      (fault-fits (first_bad_of n records Label) (length (records Label)) (Record Label) _ (λ h. omega arith)
      (fault-fits (first_bad_of n records User) (length (records User)) (Record User) _ (λ h. omega arith)
      (fault-fits (first_ring_in (forest_in n (records Component))) n.groups Ring _ (λ h. omega (arith, l.groups_limit))
      (fault-fits (first_bad_sets n (records Component) (records User)) (length (records User)) (Record User) (Ok tt) (λ h. omega arith) (omega arith)))))

  check-fits : Fits (lent_check edition profile bytes)
  unfolding lent_check
  check-fits = at (lent_layout_rule edition profile bytes) refl
    where
      at : (t : Bool) → lent_layout_rule edition profile bytes ≡ t → Fits (cond t (records_check n records) (Err Layout))
      at true e = records-fit e
      at false e = omega arith

answer-fits : (a : Amount) → PlaceFits (amount_given a) → PlaceFits (write_given (written_answer a))
answer-fits (Ok n) h = h
answer-fits (Err r) h = h

after-fits : (c : Result ⊤ LentFault) (buffer image : List ℕ) → Fits c
    → PlaceFits (write_given (on_sound {A = WriteAnswer × List ℕ} c (λ fault. (Err (refusal.Lent fault), buffer)) (image_to buffer image)).0)
after-fits (Ok _) buffer image h = answer-fits (written_to buffer image).0 (written-fits buffer image)
after-fits (Err f) buffer image h = h

pub write-fits : (edition profile : ℕ) (components labels users buffer : List ℕ)
    → PlaceFits (write_given (write_of edition profile components labels users buffer).0)
unfolding write_of
write-fits edition profile components labels users buffer =
    after-fits (lent_check edition profile (bytes_by components labels users)) buffer (lent_image edition profile (bytes_by components labels users))
    (check-fits edition profile (bytes_by components labels users))

pub records-fits : (kind : Kind) (im buffer : List ℕ) → PlaceFits (amount_given (records_given_of kind im buffer).0)
unfolding records_given_of
records-fits kind im buffer = at (check_of im) refl
  where
    at : (c : Checked) → check_of im ≡ c
        → PlaceFits (amount_given (on_checked {A = Amount × List ℕ} c (unfilled buffer) (written_to buffer (flatten (records_of im kind)))).0)
    at (Ok tt) d = written-fits buffer (flatten (records_of im kind))
    at (Err q) d = image-fits im q d
