-- What the code finds is the fault with the lowest key. Assumes nothing.
use Rattle.std.specs.Prelude.{Err}
use Prim.Native.Nat.{ℕ, ◌+◌, ◌-◌, ◌*◌, ◌/◌, ◌%◌, ◌≤◌, ◌<◌}
use mathlib.Core.Path.{◌≡◌, refl, ◌∙◌}
use mathlib.Core.Bool.{Bool, true, false, cond, ◌&&◌}
use mathlib.Core.List.{List, [], ◌∷◌, flatten}
use mathlib.Core.Logic.{◌⊎◌, inl, inr}
use native.Mathlib.Nat.{zero-add, div-add-mod, div-mul-le_self, le-div_iff_mul-le}
use native.Mathlib.Omega.{arith}
use borrow.Author.Tests.{ltb-true, ltb-false}
use lib.Dec.{ltb}
use Rattle.fields.specs.Names.{name_before}
use Rattle.fields.specs.Scan.{list_from}
use Rattle.blocks.specs.Blocks.{length_rule, block_count, block_rule, first_bad_block}
use Rattle.header.specs.declared.layout.Kind.TheVariants as kind
use Rattle.header.specs.Layout.{edition_of, groups, users, blocks_needed, capacity_of, shape_of, record_block, record_slot}
use Rattle.header.specs.declared.layout.Shape.{Shape}
use Rattle.header.proofs.Inside.{shape-roomy}
use Rattle.header.specs.Header.{header_rule, fit_rule}
use Rattle.hierarchy.specs.Forest.{first_ring_in}
use Rattle.hierarchy.specs.Below.{ends_rule, group_sets_rule, first_ring, first_bad_below}
use Rattle.hierarchy.proofs.OfImage.{first-bad-users}
use Rattle.image.specs.declared.faults.Fault.{Fault}
use Rattle.image.specs.declared.faults.Fault.TheVariants.{Length, Block, Layout, Ring}
use Rattle.image.specs.Faults.{no_fault, fault_where, key_of, key_before, lowest, fault_unless, faults_at, content_faults, below_fault, faults_of}
use Rattle.image.specs.Walk.{first_bad_content, content_fault, counted_fault, found_fault}
use Rattle.image.proofs.InBlocks.{two-numbers, three-numbers, blocks_from, blocks-upto, blocks-lowest}
use Rattle.image.proofs.Lowest.{or_else, All, none, all_append, all-unless, all-at, all_map, From, from-earlier, lowest-then, lowest-unless, lowest-at}

-- ---- the user whose groups break the rule of group sets: later users have later keys
later-record : (c i j : ℕ) → 0 < c → i < j → (i / c < j / c) ⊎ ((i / c ≡ j / c) × (i % c < j % c))
later-record c i j pos h = at (ltb (i / c) (j / c)) refl
  where
    at : (t : Bool) → ltb (i / c) (j / c) ≡ t → (i / c < j / c) ⊎ ((i / c ≡ j / c) × (i % c < j % c))
    at true e = inl (ltb-true (i / c) (j / c) e)
    at false e =
        let up : i / c ≤ j / c = (le-div_iff_mul-le pos).1 (omega (arith, div-mul-le_self i c)) in
        let same : i / c ≡ j / c = omega (arith, ltb-false (i / c) (j / c) e, up) in
        let low : c * (j / c) + i % c ≡ i = rw same at (div-add-mod i c) in
        inr (same, omega (arith, low, div-add-mod j c))

below-rise : (im : List ℕ) (i j : ℕ) → i < j → key_before (key_of (below_fault im i)) (key_of (below_fault im j)) ≡ true
below-rise im i j h = at (later-record (capacity_of (edition_of im) kind.User) i j (shape-roomy im kind.User).some h)
  where
    s : Shape
    s = shape_of im kind.User

    at : (i / s.capacity < j / s.capacity) ⊎ ((i / s.capacity ≡ j / s.capacity) × (i % s.capacity < j % s.capacity))
        → key_before (key_of (below_fault im i)) (key_of (below_fault im j)) ≡ true
    at (inl l) = two-numbers 5 (record_block s i) (record_block s j) (record_slot s i ∷ []) (record_slot s j ∷ []) (omega arith)
    at (inr (e, l)) = rw e (three-numbers 5 (s.first + j / s.capacity) (record_slot s i) (record_slot s j) l)

-- ---- all faults
module _ (im : List ℕ) where
  abbrev checks : List Fault
  checks = faults_at (block_rule im) Block (block_count im) 0

  abbrev contents : List Fault
  contents = flatten (list_from (content_faults im) (blocks_needed im - 1) 1)

  abbrev rings : List Fault
  rings = faults_at (ends_rule im) Ring (groups im) 0

  abbrev belows : List Fault
  belows = faults_at (group_sets_rule im) (below_fault im) (users im) 0

  checks-lowest : lowest checks ≡ fault_where (ltb (first_bad_block im) (block_count im)) (Block (first_bad_block im)) no_fault
  unfolding first_bad_block
  checks-lowest = lowest-at (block_rule im) Block (λ i j h. two-numbers 2 i j [] [] h) (block_count im) 0 ∙ rw zero-add

  contents-lowest : lowest contents ≡ fault_where (ltb (first_bad_content im) (blocks_needed im)) (content_fault im (first_bad_content im)) no_fault
  unfolding first_bad_content
  contents-lowest = blocks-lowest im (blocks_needed im - 1) 1 (omega arith) (omega (arith, some)) ∙ rw all
    where
      some : 1 ≤ blocks_needed im
      some = unfold blocks_needed in omega arith

      all : 1 + (blocks_needed im - 1) ≡ blocks_needed im
      all = omega (arith, some)

  rings-lowest : lowest rings ≡ fault_where (ltb (first_ring im) (groups im)) (Ring (first_ring im)) no_fault
  unfolding first_ring_in
  rings-lowest = lowest-at (ends_rule im) Ring (λ i j h. two-numbers 4 i j [] [] h) (groups im) 0 ∙ rw zero-add

  belows-lowest : lowest belows ≡ fault_where (ltb (first_bad_below im) (users im)) (below_fault im (first_bad_below im)) no_fault
  belows-lowest = lowest-at (group_sets_rule im) (below_fault im) (below-rise im) (users im) 0 ∙ rw (zero-add, first-bad-users im)

  -- what comes after each run has later keys
  from-belows : All (From (5 ∷ [])) (flatten (belows ∷ []))
  unfolding flatten name_before
  from-belows = all_append (all-at (group_sets_rule im) (below_fault im) (users im) 0 (λ u h. refl)) none

  from-rings : All (From (4 ∷ [])) (flatten (rings ∷ belows ∷ []))
  unfolding flatten name_before
  from-rings = all_append (all-at (ends_rule im) Ring (groups im) 0 (λ g h. refl)) (all_map (from-earlier (4 ∷ []) (5 ∷ []) refl) from-belows)

  from-contents : All (From (3 ∷ 1 ∷ [])) (flatten (contents ∷ rings ∷ belows ∷ []))
  unfolding flatten name_before
  from-contents = all_append (blocks_from im (blocks_needed im - 1) 1) (all_map (from-earlier (3 ∷ 1 ∷ []) (4 ∷ []) refl) from-rings)

  abbrev header : List Fault
  header = fault_unless (header_rule im && fit_rule im) (Layout 0)

  from-header : All (From (3 ∷ [])) (flatten (header ∷ contents ∷ rings ∷ belows ∷ []))
  unfolding flatten name_before
  from-header = all_append (all-unless (header_rule im && fit_rule im) (Layout 0) refl) (all_map (from-earlier (3 ∷ []) (3 ∷ 1 ∷ []) refl) from-contents)

  from-checks : All (From (2 ∷ [])) (flatten (checks ∷ header ∷ contents ∷ rings ∷ belows ∷ []))
  unfolding flatten name_before
  from-checks = all_append (all-at (block_rule im) Block (block_count im) 0 (λ b h. refl)) (all_map (from-earlier (2 ∷ []) (3 ∷ []) refl) from-header)

  -- so the lowest of all is that of the first run that has a fault
  lowest-parts : lowest (faults_of im)
      ≡ or_else (cond (length_rule im) no_fault (Err Length))
      (or_else (fault_where (ltb (first_bad_block im) (block_count im)) (Block (first_bad_block im)) no_fault)
      (or_else (cond (header_rule im && fit_rule im) no_fault (Err (Layout 0)))
      (or_else (fault_where (ltb (first_bad_content im) (blocks_needed im)) (content_fault im (first_bad_content im)) no_fault)
      (or_else (fault_where (ltb (first_ring im) (groups im)) (Ring (first_ring im)) no_fault)
      (or_else (fault_where (ltb (first_bad_below im) (users im)) (below_fault im (first_bad_below im)) no_fault) no_fault)))))
  unfolding faults_of flatten lowest name_before
  lowest-parts =
      lowest-then (2 ∷ []) (all-unless (length_rule im) Length refl) from-checks (lowest-unless (length_rule im) Length)
      (lowest-then (3 ∷ []) (all-at (block_rule im) Block (block_count im) 0 (λ b h. refl)) from-header checks-lowest
      (lowest-then (3 ∷ 1 ∷ []) (all-unless (header_rule im && fit_rule im) (Layout 0) refl) from-contents
      (lowest-unless (header_rule im && fit_rule im) (Layout 0))
      (lowest-then (4 ∷ []) (blocks-upto im (blocks_needed im - 1) 1) from-rings contents-lowest
      (lowest-then (5 ∷ []) (all-at (ends_rule im) Ring (groups im) 0 (λ g h. refl)) from-belows rings-lowest
      (lowest-then (6 ∷ []) (all-at (group_sets_rule im) (below_fault im) (users im) 0 (λ u h. refl)) none belows-lowest refl)))))

  -- which is what the code finds
  pub found-lowest : lowest (faults_of im) ≡ found_fault im
  unfolding found_fault counted_fault
  found-lowest =
      lowest-parts
      ∙ at (length_rule im) (ltb (first_bad_block im) (block_count im)) (header_rule im && fit_rule im)
      (ltb (first_bad_content im) (blocks_needed im)) (ltb (first_ring im) (groups im)) (ltb (first_bad_below im) (users im))
    where
      at : (l b h c r u : Bool)
          → or_else (cond l no_fault (Err Length))
          (or_else (fault_where b (Block (first_bad_block im)) no_fault)
          (or_else (cond h no_fault (Err (Layout 0)))
          (or_else (fault_where c (content_fault im (first_bad_content im)) no_fault)
          (or_else (fault_where r (Ring (first_ring im)) no_fault)
          (or_else (fault_where u (below_fault im (first_bad_below im)) no_fault) no_fault)))))
          ≡ cond l (fault_where b (Block (first_bad_block im))
          (cond h (fault_where c (content_fault im (first_bad_content im))
          (fault_where r (Ring (first_ring im)) (fault_where u (below_fault im (first_bad_below im)) no_fault))) (Err (Layout 0)))) (Err Length)
      at false b h c r u = refl
      at true true h c r u = refl
      at true false false c r u = refl
      at true false true true r u = refl
      at true false true false true u = refl
      at true false true false false true = refl
      at true false true false false false = refl
