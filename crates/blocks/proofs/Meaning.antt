-- What the rules of an image as blocks mean, both ways, and document 01's example of the check. Assumes nothing.
use Rattle.std.proofs.Common.{◌≡◌, ℕ, ◌%◌, ◌<◌, ◌≤◌, true, false, List, ◌∷◌, length, replicate, refl, arith, ltb-true, lt-ltb, eq-eqb, eqb-true, le-leb, leb-true}
use Rattle.fields.specs.Bytes.{byte_at, part, number2}
use Rattle.fields.proofs.Both.{parts}
use Rattle.fields.proofs.Scan.{good-before, bad-at}
use Rattle.blocks.specs.Blocks.{length_rule, block_at, sum_a, sum_b, check_rule, place_rule, block_rule, block_count, first_bad_block}

-- ---- the length
pub record LengthKept (im : List ℕ) : Type 0 where
  pub some : 0 < length im
  pub whole : length im % 512 ≡ 0
  pub most : length im ≤ 65536

pub length-means : (im : List ℕ) → length_rule im ≡ true → LengthKept im
unfolding length_rule
length-means im e =
    let q2 = parts _ _ e in
    let q1 = parts _ _ q2.0 in
    record {
      some = ltb-true _ _ q1.0;
      whole = eqb-true _ _ q1.1;
      most = leb-true _ _ q2.1;
    }

pub length-holds : (im : List ℕ) → LengthKept im → length_rule im ≡ true
unfolding length_rule
length-holds im k = rw (lt-ltb _ _ k.some, eq-eqb _ _ k.whole, le-leb _ _ k.most)

-- ---- a block: bytes 510 and 511 are the two sums of the bytes before them, bytes 2..3 the block's place
pub record BlockKept (im : List ℕ) (b : ℕ) : Type 0 where
  pub first : byte_at (block_at im b) 510 ≡ sum_a 0 (part (block_at im b) 0 510)
  pub second : byte_at (block_at im b) 511 ≡ sum_b 0 0 (part (block_at im b) 0 510)
  pub place : number2 (block_at im b) 2 ≡ b

pub block-means : (im : List ℕ) (b : ℕ) → block_rule im b ≡ true → BlockKept im b
unfolding block_rule check_rule place_rule
block-means im b e =
    let q2 = parts _ _ e in
    let q1 = parts _ _ q2.0 in
    record {
      first = eqb-true _ _ q1.0;
      second = eqb-true _ _ q1.1;
      place = eqb-true _ _ q2.1;
    }

pub block-holds : (im : List ℕ) (b : ℕ) → BlockKept im b → block_rule im b ≡ true
unfolding block_rule check_rule place_rule
block-holds im b k = rw (eq-eqb _ _ k.first, eq-eqb _ _ k.second, eq-eqb _ _ k.place)

-- ---- the lowest bad block
-- every block before it is sound, so that all are where there is none
pub blocks-kept : (im : List ℕ) (b : ℕ) → b < first_bad_block im → BlockKept im b
unfolding first_bad_block
blocks-kept im b h = block-means im b (good-before (block_rule im) (block_count im) 0 b (omega arith) h)

-- and it breaks a rule
pub bad-block : (im : List ℕ) → first_bad_block im < block_count im → block_rule im (first_bad_block im) ≡ false
unfolding first_bad_block
bad-block im h = bad-at (block_rule im) (block_count im) 0 (omega arith)

-- ---- 1, 2 and 508 zeros: the sums are 3 and 253
pub example-sums : (sum_a 0 (1 ∷ 2 ∷ replicate 508 0) ≡ 3) × (sum_b 0 0 (1 ∷ 2 ∷ replicate 508 0) ≡ 253)
unfolding sum_a sum_b
example-sums = (refl, refl)
