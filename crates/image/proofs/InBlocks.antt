-- The lowest fault of the blocks after the header is that of the lowest block with a fault, and there of its layout or else its lowest bad
-- record. Assumes nothing.
use Rattle.std.specs.Prelude.{Err}
use Prim.Native.Nat.{ℕ, zero, suc, ◌+◌, ◌-◌, ◌≤◌, ◌<◌}
use mathlib.Core.Path.{◌≡◌, refl, sym, ◌∙◌, ap, ap₂}
use mathlib.Core.Bool.{Bool, true, false, cond, ◌&&◌}
use mathlib.Core.List.{List, [], ◌∷◌, ◌++◌, flatten}
use native.Mathlib.Nat.{add-zero, zero-add, add-suc, suc-add, add-sub_cancel_left}
use native.Mathlib.Omega.{arith}
use borrow.Author.Tests.{lt-ltb, le-ltb, eq-eqb, ne_eqb, ltb-true, ltb-false}
use lib.Dec.{eqb, ltb}
use Rattle.fields.specs.Names.{name_before}
use Rattle.fields.specs.Scan.{first_bad, list_from}
use Rattle.fields.proofs.Scan.{bad-shift, bad-upto}
use Rattle.header.specs.declared.layout.Kind.{Kind}
use Rattle.header.specs.declared.layout.Kind.TheVariants as kind
use Rattle.header.specs.declared.layout.Contents.{Contents}
use Rattle.header.specs.Layout.{blocks_needed, contents_of}
use Rattle.header.proofs.Inside.{held-is}
use Rattle.records.specs.Rules.{layout_rule, record_rule, first_bad_record, content_rule}
use Rattle.image.specs.declared.faults.Fault.{Fault}
use Rattle.image.specs.declared.faults.Fault.TheVariants.{Layout}
use Rattle.image.specs.Faults.{Inspection, no_fault, fault_where, key_of, key_before, lowest, faults_at, record_fault, content_faults}
use Rattle.image.specs.Walk.{content_fault}
use Rattle.image.proofs.Lowest.{or_else, All, none, all_append, all-unless, all-at, all_map, Upto, From, upto-later, from-earlier, not-before, not_itself, lowest-append, lowest-unless, lowest-at}

-- ---- keys, number by number
pub lower-number : (x y : ℕ) (xs ys : List ℕ) → x < y → key_before (x ∷ xs) (y ∷ ys) ≡ true
unfolding name_before
lower-number x y xs ys h = rw (lt-ltb x y h)

pub same_number : (x : ℕ) (xs ys : List ℕ) → key_before (x ∷ xs) (x ∷ ys) ≡ key_before xs ys
unfolding name_before
same_number x xs ys = rw (le-ltb x x (omega arith), eq-eqb x x refl)

-- a key of one number more
pub longer : (xs : List ℕ) (y : ℕ) (ys : List ℕ) → key_before xs (xs ++ (y ∷ ys)) ≡ true
unfolding name_before
longer [] y ys = refl
longer (x ∷ xs) y ys = same_number x xs (xs ++ (y ∷ ys)) ∙ longer xs y ys

-- two numbers, and what follows them
pub two-numbers : (n x y : ℕ) (xs ys : List ℕ) → x < y → key_before (n ∷ x ∷ xs) (n ∷ y ∷ ys) ≡ true
two-numbers n x y xs ys h = same_number n (x ∷ xs) (y ∷ ys) ∙ lower-number x y xs ys h

pub three-numbers : (n b x y : ℕ) → x < y → key_before (n ∷ b ∷ x ∷ []) (n ∷ b ∷ y ∷ []) ≡ true
three-numbers n b x y h = same_number n (b ∷ x ∷ []) (b ∷ y ∷ []) ∙ two-numbers b x y [] [] h

-- ---- the faults of a block after the header
record-key : (k : Kind) (b r : ℕ) → key_of (record_fault k b r) ≡ 3 ∷ b ∷ r ∷ []
record-key kind.Component b r = refl
record-key kind.Label b r = refl
record-key kind.User b r = refl

module _ (im : List ℕ) (b : ℕ) where
  abbrev c : Contents
  c = contents_of im b

  -- the rule of a record by its place in the block
  abbrev pub slot_rule : ℕ → Bool
  slot_rule r = record_rule im c.kind (c.from + r)

  abbrev records : List Fault
  records = faults_at slot_rule (record_fault c.kind b) (c.to - c.from) 0

  -- keys of the block's faults, from that of its layout on and before that of the next block's
  content-from : All (From (3 ∷ b ∷ [])) (content_faults im b)
  unfolding content_faults
  content-from =
      all_append (all-unless (layout_rule im b) (Layout b) (not_itself (3 ∷ b ∷ [])))
      (all-at slot_rule (record_fault c.kind b) (c.to - c.from) 0
      (λ r h. rw (record-key c.kind b r) (not-before (3 ∷ b ∷ []) (3 ∷ b ∷ r ∷ []) (longer (3 ∷ b ∷ []) r []))))

  content-upto : All (Upto (3 ∷ suc b ∷ [])) (content_faults im b)
  unfolding content_faults
  content-upto =
      all_append (all-unless (layout_rule im b) (Layout b) (two-numbers 3 b (suc b) [] [] (omega arith)))
      (all-at slot_rule (record_fault c.kind b) (c.to - c.from) 0
      (λ r h. rw (record-key c.kind b r) (two-numbers 3 b (suc b) (r ∷ []) [] (omega arith))))

  -- the lowest bad record, by its place in the block
  abbrev pub bad_slot : ℕ
  bad_slot = first_bad slot_rule (c.to - c.from) 0

  records-lowest : lowest records ≡ fault_where (ltb bad_slot (c.to - c.from)) (record_fault c.kind b bad_slot) no_fault
  records-lowest =
      lowest-at slot_rule (record_fault c.kind b)
      (λ i j h. rw (record-key c.kind b i, record-key c.kind b j) (three-numbers 3 b i j h))
      (c.to - c.from) 0 ∙ rw zero-add

  content-parts : lowest (content_faults im b) ≡ or_else (cond (layout_rule im b) no_fault (Err (Layout b))) (lowest records)
  unfolding content_faults
  content-parts =
      lowest-append (3 ∷ b ∷ 0 ∷ [])
      (all-unless (layout_rule im b) (Layout b) (longer (3 ∷ b ∷ []) 0 []))
      (all-at slot_rule (record_fault c.kind b) (c.to - c.from) 0 (λ r h. rw (record-key c.kind b r) (at r (ltb 0 r) refl)))
      ∙ ap (λ (r : Inspection). or_else r (lowest records)) (lowest-unless (layout_rule im b) (Layout b))
    where
      at : (r : ℕ) (t : Bool) → ltb 0 r ≡ t → key_before (3 ∷ b ∷ r ∷ []) (3 ∷ b ∷ 0 ∷ []) ≡ false
      at r true e = not-before (3 ∷ b ∷ 0 ∷ []) (3 ∷ b ∷ r ∷ []) (three-numbers 3 b 0 r (ltb-true 0 r e))
      at r false e =
          let z : r ≡ 0 = omega (arith, ltb-false 0 r e) in
          rw z (not_itself (3 ∷ b ∷ 0 ∷ []))

  -- counted among all records of the kind, it is the one that `first_bad_record` names
  pub bad-counted : first_bad_record im b ≡ c.from + bad_slot
  unfolding first_bad_record
  bad-counted =
      ap (first_bad (record_rule im c.kind) (c.to - c.from)) (sym (add-zero c.from))
      ∙ bad-shift (record_rule im c.kind) c.from (c.to - c.from) 0

  content-lowest : 1 ≤ b → b < blocks_needed im → lowest (content_faults im b) ≡ cond (content_rule im b) no_fault (Err (content_fault im b))
  unfolding content_rule content_fault
  content-lowest low high =
      content-parts
      ∙ ap (or_else (cond (layout_rule im b) no_fault (Err (Layout b)))) records-lowest
      ∙ at (layout_rule im b) (ltb bad_slot (c.to - c.from)) refl
    where
      ordered : c.from ≤ c.to
      ordered = (held-is im b low high).ordered

      at : (t s : Bool) → ltb bad_slot (c.to - c.from) ≡ s
          → or_else (cond t no_fault (Err (Layout b))) (fault_where s (record_fault c.kind b bad_slot) no_fault)
          ≡ cond (t && eqb (first_bad_record im b) c.to) no_fault
          (Err (cond t (record_fault c.kind b (first_bad_record im b - c.from)) (Layout b)))
      at false s e = refl
      at true true e =
          let h : bad_slot < c.to - c.from = ltb-true bad_slot (c.to - c.from) e in
          let n : c.from + bad_slot ≡ c.to → ⊥ = λ (q : c.from + bad_slot ≡ c.to). omega (arith, h, ordered, q) in
          rw (bad-counted, ne_eqb (c.from + bad_slot) c.to n, add-sub_cancel_left)
      at true false e =
          let h : c.to - c.from ≤ bad_slot = ltb-false bad_slot (c.to - c.from) e in
          let q : c.from + bad_slot ≡ c.to = omega (arith, h, ordered, bad-upto slot_rule (c.to - c.from) 0) in
          rw (bad-counted, eq-eqb (c.from + bad_slot) c.to q)

-- ---- the faults of all blocks after the header
module _ (im : List ℕ) where
  pub blocks_from : (n k : ℕ) → All (From (3 ∷ k ∷ [])) (flatten (list_from (content_faults im) n k))
  unfolding list_from flatten
  blocks_from zero k = none
  blocks_from (suc n) k =
      all_append (content-from im k)
      (all_map (from-earlier (3 ∷ k ∷ []) (3 ∷ suc k ∷ []) (two-numbers 3 k (suc k) [] [] (omega arith))) (blocks_from n (suc k)))

  pub blocks-upto : (n k : ℕ) → All (Upto (4 ∷ [])) (flatten (list_from (content_faults im) n k))
  unfolding list_from flatten
  blocks-upto zero k = none
  blocks-upto (suc n) k =
      all_append (all_map (upto-later (3 ∷ suc k ∷ []) (4 ∷ []) (lower-number 3 4 (suc k ∷ []) [] (omega arith))) (content-upto im k))
      (blocks-upto n (suc k))

  pub blocks-lowest : (n k : ℕ) → 1 ≤ k → k + n ≤ blocks_needed im
      → lowest (flatten (list_from (content_faults im) n k))
      ≡ fault_where (ltb (first_bad (content_rule im) n k) (k + n)) (content_fault im (first_bad (content_rule im) n k)) no_fault
  unfolding list_from flatten lowest first_bad
  blocks-lowest zero k low high = rw (le-ltb k (k + 0) (omega arith))
  blocks-lowest (suc n) k low high =
      lowest-append (3 ∷ suc k ∷ []) (content-upto im k) (blocks_from n (suc k))
      ∙ ap₂ or_else (content-lowest im k low (omega arith)) (blocks-lowest n (suc k) (omega arith) (omega arith))
      ∙ at (content_rule im k)
    where
      at : (t : Bool)
          → or_else (cond t no_fault (Err (content_fault im k)))
          (fault_where (ltb (first_bad (content_rule im) n (suc k)) (suc k + n)) (content_fault im (first_bad (content_rule im) n (suc k))) no_fault)
          ≡ fault_where (ltb (cond t (first_bad (content_rule im) n (suc k)) k) (k + suc n))
          (content_fault im (cond t (first_bad (content_rule im) n (suc k)) k)) no_fault
      at true = rw (add-suc, ← suc-add)
      at false = rw (lt-ltb k (k + suc n) (omega arith))
