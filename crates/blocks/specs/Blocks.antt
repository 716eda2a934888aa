-- An image is 1 to 128 blocks of 512 bytes. Bytes 2..3 of a block are its place from 0, bytes 510..511 its check.
use Rattle.std.specs.Prelude.{ℕ, ◌+◌, ◌*◌, ◌/◌, ◌%◌, Bool, ◌&&◌, List, [], ◌∷◌, length, ◌==◌, nat_le, nat_lt}
use Rattle.fields.specs.Bytes.{byte_at, part, number2}
use Rattle.fields.specs.Scan.{first_bad}
use Rattle.blocks.specs.declared.frame.Checksum.{Checksum}

-- the length is not 0, a multiple of 512 and at most 65,536
unfoldable pub length_rule : List ℕ → Bool
length_rule im = nat_lt 0 (length im) && length im % 512 == 0 && nat_le (length im) 65536

-- block b
unfoldable pub block_at : List ℕ → ℕ → List ℕ
block_at im b = part im (512 * b) 512

-- the two sums: a = (a + byte) mod 255, then b = (b + a) mod 255, over the bytes in order
unfoldable pub sum_a : ℕ → List ℕ → ℕ
sum_a a [] = a
sum_a a (x ∷ xs) = sum_a ((a + x) % 255) xs

unfoldable pub sum_b : ℕ → ℕ → List ℕ → ℕ
sum_b a b [] = b
sum_b a b (x ∷ xs) = sum_b ((a + x) % 255) ((b + (a + x) % 255) % 255) xs

-- the check runs over bytes 0..509, both sums from 0
abbrev pub sums_of : List ℕ → Checksum
sums_of block = record { a = sum_a 0 (part block 0 510); b = sum_b 0 0 (part block 0 510) }

-- byte 510 is a, byte 511 is b
unfoldable pub check_rule : List ℕ → Bool
check_rule block = byte_at block 510 == (sums_of block).a && byte_at block 511 == (sums_of block).b

unfoldable pub place_rule : List ℕ → ℕ → Bool
place_rule block b = number2 block 2 == b

-- the block's check and place are right
unfoldable pub block_rule : List ℕ → ℕ → Bool
block_rule im b = check_rule (block_at im b) && place_rule (block_at im b) b

unfoldable pub block_count : List ℕ → ℕ
block_count im = length im / 512

-- the lowest block whose check or place is wrong; the number of blocks where there is none
unfoldable pub first_bad_block : List ℕ → ℕ
first_bad_block im = first_bad (block_rule im) (block_count im) 0
