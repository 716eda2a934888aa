-- An image is accepted exactly if it keeps every rule: acceptance gives each rule back. Assumes nothing.
use Rattle.std.proofs.Common.{Ok, Err}
use Rattle.refusals.specs.Answers.{Checked}
use Prim.Native.Nat.{ℕ, zero-le, ◌+◌, ◌-◌, ◌≤◌, ◌<◌}
use mathlib.Core.Path.{◌≡◌, refl, sym, ◌∙◌, subst}
use mathlib.Core.Bool.{Bool, true, false, cond, ◌&&◌}
use mathlib.Core.List.{List}
use native.Mathlib.Nat.{sub-zero}
use native.Mathlib.Omega.{arith}
use borrow.Author.Tests.{ltb-false, le-ltb}
use lib.Dec.{ltb}
use Rattle.fields.specs.Scan.{first_bad}
use Rattle.fields.proofs.Both.{both_left, both_right}
use Rattle.fields.proofs.Scan.{good-before, all-good}
use Rattle.blocks.specs.Blocks.{length_rule, block_rule, block_count, first_bad_block}
use Rattle.header.specs.Layout.{groups, users, blocks_needed}
use Rattle.header.specs.Header.{header_rule, fit_rule}
use Rattle.records.specs.Rules.{content_rule}
use Rattle.header.specs.Limits.{Counted}
use Rattle.records.proofs.MeaningHeader.{counted}
use Rattle.refusals.specs.declared.Refusal.{Refusal}
use Rattle.hierarchy.specs.Forest.{first_ring_in}
use Rattle.hierarchy.specs.Below.{ends_rule, group_sets_rule, first_ring, first_bad_below, AllEnd}
use Rattle.hierarchy.proofs.OfImage.{first-bad-users}
use Rattle.image.specs.declared.faults.Fault.{Fault}
use Rattle.image.specs.declared.faults.Fault.TheVariants.{Length, Block, Layout, Ring}
use Rattle.image.specs.Faults.{Inspection, no_fault, fault_where, below_fault}
use Rattle.image.specs.Check.{fault_of, check_of, IsAccepted}
use Rattle.image.specs.Walk.{first_bad_content, counted_fault, found_fault}
use Rattle.image.proofs.Tables.{shown-sound}
use Rattle.image.proofs.Told.{found-lowest}

-- ---- telling sound from faulty
pub refused-not : (r : Refusal) → ◌≡◌ {A = Checked} (Err r) (Ok tt) → ⊥
refused-not r e = cc

-- a choice that is sound has taken the branch that can be
took-first : (t : Bool) (x : Inspection) (f : Fault) → cond t x (Err f) ≡ Ok tt → (t ≡ true) × (x ≡ no_fault)
took-first true x f e = (refl, e)
took-first false x f e = absurd cc

took-second : (t : Bool) (f : Fault) (y : Inspection) → fault_where t f y ≡ Ok tt → (t ≡ false) × (y ≡ no_fault)
took-second true f y e = absurd cc
took-second false f y e = (refl, e)

-- ---- the rules, one by one
pub record Keeps (im : List ℕ) : Type 0 where
  pub length : length_rule im ≡ true
  pub blocks : (b : ℕ) → b < block_count im → block_rule im b ≡ true
  pub header : header_rule im ≡ true
  pub fit : fit_rule im ≡ true
  pub contents : (b : ℕ) → 1 ≤ b → b < blocks_needed im → content_rule im b ≡ true
  pub ends : (g : ℕ) → g < groups im → ends_rule im g ≡ true
  pub below : (u : ℕ) → u < users im → group_sets_rule im u ≡ true

module _ (im : List ℕ) (acc : IsAccepted im) where
  sound : found_fault im ≡ Ok tt
  unfolding check_of fault_of
  sound = sym (found-lowest im) ∙ shown-sound (fault_of im) acc

  outer : (length_rule im ≡ true)
      × (fault_where (ltb (first_bad_block im) (block_count im)) (Block (first_bad_block im))
      (cond (header_rule im && fit_rule im) (counted_fault im) (Err (Layout 0))) ≡ no_fault)
  unfolding found_fault
  outer = took-first _ _ Length sound

  framed : (ltb (first_bad_block im) (block_count im) ≡ false) × (cond (header_rule im && fit_rule im) (counted_fault im) (Err (Layout 0)) ≡ no_fault)
  framed = took-second _ _ _ outer.1

  headed : ((header_rule im && fit_rule im) ≡ true) × (counted_fault im ≡ no_fault)
  headed = took-first _ _ (Layout 0) framed.1

  filled : (ltb (first_bad_content im) (blocks_needed im) ≡ false)
      × (fault_where (ltb (first_ring im) (groups im)) (Ring (first_ring im))
      (fault_where (ltb (first_bad_below im) (users im)) (below_fault im (first_bad_below im)) no_fault) ≡ no_fault)
  unfolding counted_fault
  filled = took-second _ _ _ headed.1

  ringless : (ltb (first_ring im) (groups im) ≡ false)
      × (fault_where (ltb (first_bad_below im) (users im)) (below_fault im (first_bad_below im)) no_fault ≡ no_fault)
  ringless = took-second _ _ _ filled.1

  lowered : ltb (first_bad_below im) (users im) ≡ false
  lowered = (took-second _ _ _ ringless.1).0

  -- a search that found nothing bad below n has passed every place from k up to n
  passed : (rule : ℕ → Bool) (k n first : ℕ) → first ≡ first_bad rule (n - k) k → ltb first n ≡ false
      → (i : ℕ) → k ≤ i → i < n → rule i ≡ true
  passed rule k n first e t i low high =
      let g : n ≤ first = ltb-false first n t in
      let h : i < first_bad rule (n - k) k = omega arith in
      good-before rule (n - k) k i low h

  pub keeps : Keeps im
  unfolding first_bad_block first_bad_content first_ring_in
  keeps =
      record {
        length = outer.0;
        blocks = λ b h. passed (block_rule im) 0 (block_count im) _ (rw sub-zero) framed.0 b zero-le h;
        header = both_left (header_rule im) (fit_rule im) headed.0;
        fit = both_right (header_rule im) (fit_rule im) headed.0;
        contents = λ b l h. passed (content_rule im) 1 (blocks_needed im) _ refl filled.0 b l h;
        ends = λ g h. passed (ends_rule im) 0 (groups im) _ (rw sub-zero) ringless.0 g zero-le h;
        below = λ u h. passed (group_sets_rule im) 0 (users im) _ (first-bad-users im ∙ rw sub-zero) lowered u zero-le h;
      }

-- and an image that keeps every rule is accepted
nothing-bad : (rule : ℕ → Bool) (k n : ℕ) → k ≤ n → ((i : ℕ) → k ≤ i → i < n → rule i ≡ true) → ltb (first_bad rule (n - k) k) n ≡ false
nothing-bad rule k n h all =
    let e : first_bad rule (n - k) k ≡ k + (n - k) = all-good rule (n - k) k (λ i a b. all i a (omega arith)) in
    le-ltb (first_bad rule (n - k) k) n (omega arith)

module _ (im : List ℕ) (k : Keeps im) where
  some : 1 ≤ blocks_needed im
  unfolding blocks_needed
  some = omega arith

  no_block : ltb (first_bad_block im) (block_count im) ≡ false
  unfolding first_bad_block
  no_block = subst (λ (n : ℕ). ltb (first_bad (block_rule im) n 0) (block_count im) ≡ false) (sub-zero (block_count im))
      (nothing-bad (block_rule im) 0 (block_count im) zero-le (λ i a b. k.blocks i b))

  no-content : ltb (first_bad_content im) (blocks_needed im) ≡ false
  unfolding first_bad_content
  no-content = nothing-bad (content_rule im) 1 (blocks_needed im) some k.contents

  no-ring : ltb (first_ring im) (groups im) ≡ false
  unfolding first_ring_in
  no-ring = subst (λ (n : ℕ). ltb (first_bad (ends_rule im) n 0) (groups im) ≡ false) (sub-zero (groups im))
      (nothing-bad (ends_rule im) 0 (groups im) zero-le (λ i a b. k.ends i b))

  no-below : ltb (first_bad_below im) (users im) ≡ false
  no-below = rw (first-bad-users im)
      (subst (λ (n : ℕ). ltb (first_bad (group_sets_rule im) n 0) (users im) ≡ false) (sub-zero (users im))
      (nothing-bad (group_sets_rule im) 0 (users im) zero-le (λ i a b. k.below i b)))

  pub kept-accepted : IsAccepted im
  unfolding check_of fault_of found_fault counted_fault
  kept-accepted = rw (found-lowest im, k.length, no_block, k.header, k.fit, no-content, no-ring, no-below)

-- the header and the length of an accepted image are sound
pub accepted-counted : (im : List ℕ) → IsAccepted im → Counted im
accepted-counted im acc = counted im (keeps im acc).header (keeps im acc).fit

-- so the parents of every group end
pub accepted-ends : (im : List ℕ) → IsAccepted im → AllEnd im
accepted-ends im acc = (keeps im acc).ends
