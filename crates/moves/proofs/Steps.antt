-- Laws of the loops and the calls that write the image of a move: what those of the writer leave. Assumes nothing.
use Prim.Native.Nat.{ℕ, suc, ◌+◌, ◌-◌, ◌*◌, ◌≤◌, ◌<◌}
use mathlib.Core.Path.{◌≡◌, sym, ap, ◌∙◌}
use mathlib.Core.List.{List, [], ◌++◌, flatten}
use native.Mathlib.Numerals.{add-one}
use native.Mathlib.Omega.{arith}
use lib.ListN.{length, length-append}
use lib.Seq.{drop-cons}
use Rattle.fields.specs.Bytes.{part}
use Rattle.fields.proofs.Laws.{part_length}
use Rattle.header.specs.declared.edition.Edition.TheVariants.{One}
use Rattle.header.specs.declared.layout.Kind.{Kind}
use Rattle.header.specs.declared.layout.Kind.TheVariants.{Component, Label, User}
use Rattle.header.specs.Layout.{edition_of, count_of, record_size, blocks_for, Fitted, record_at}
use Rattle.writing.specs.Laid.{bytes2, Sized}
use Rattle.writing.proofs.Placed.{image-length}
use Rattle.writing.proofs.KindSteps.{all_blocks, kind-long}
use Rattle.moves.specs.declared.target.Move.{Move}
use Rattle.moves.specs.Moved.{wide_set, edition_after, new_record, new_records, new_counts, new_image}
use Rattle.moves.specs.Parts.{new_run, new_capacity, new_blocks, new_kind}
use Rattle.moves.proofs.Fronts.{wide-length}
use Rattle.moves.proofs.NewImage.{new-count, new-record, new-fits}

-- ---- a record
-- a list and then a set
longer : (s rec : List ℕ) (k n : ℕ) → length s ≡ n → k + 8 ≤ length rec → length (s ++ wide_set rec k) ≡ n + 32
longer s rec k n e h = omega (arith, length-append s (wide_set rec k), wide-length rec k h)

-- a user's bytes up to its first, second, third and fourth set of groups
module _ (rec : List ℕ) (size : length rec ≡ 128) where
  pub kept-length : length (part rec 0 72) ≡ 72
  kept-length = part_length rec 0 72 (omega arith)

  pub read_length : length (part rec 0 72 ++ wide_set rec 72) ≡ 104
  read_length = longer (part rec 0 72) rec 72 72 kept-length (omega arith)

  pub write-length : length (part rec 0 72 ++ wide_set rec 72 ++ wide_set rec 80) ≡ 136
  write-length = longer (part rec 0 72 ++ wide_set rec 72) rec 80 104 read_length (omega arith)

  pub default-length : length (part rec 0 72 ++ wide_set rec 72 ++ wide_set rec 80 ++ wide_set rec 88) ≡ 168
  default-length = longer (part rec 0 72 ++ wide_set rec 72 ++ wide_set rec 80) rec 88 136 write-length (omega arith)

-- a component's bytes up to its unused ones
pub parent-length : (rec : List ℕ) (x : ℕ) → length rec ≡ 40 → length (part rec 0 34 ++ bytes2 x) ≡ 36
parent-length rec x e = omega (arith, length-append (part rec 0 34) (bytes2 x), part_length rec 0 34 (omega arith))

-- ---- the records of a kind
module _ (which : Move) (im : List ℕ) (kind : Kind) where
  -- ---- those from `from` up to `to`, as a loop writes them
  pub run_step : (from to : ℕ) → from < to → to ≤ count_of im kind
      → flatten (new_run which im kind from to) ≡ new_record which kind (record_at im kind from) ++ flatten (new_run which im kind (from + 1) to)
  unfolding flatten
  run_step from to low high =
      let one : to - from ≡ suc (to - (from + 1)) = omega arith in
      rw (one, drop-cons (new_records which im kind) from [] (omega (arith, new-count which im kind)), new-record which im kind from (omega arith), add-one)

  pub run_end : (from to : ℕ) → to ≤ from → flatten (new_run which im kind from to) ≡ []
  unfolding flatten
  run_end from to h = let none : to - from ≡ 0 = omega arith in rw none

  -- ---- all blocks, by the number of records that the old image has
  pub kind-is : (place : ℕ) → all_blocks (edition_after which) kind (new_records which im kind) place ≡ new_kind which im kind place
  kind-is place = rw (new-count which im kind)

  -- ---- lengths
  module _ (fit : Fitted im) (one : edition_of im ≡ One) where
    pub new-sized : Sized (record_size (edition_after which) kind) (new_records which im kind)
    new-sized = (new-fits which im fit one).sizes kind

    pub new-long : (i : ℕ) → i < count_of im kind → length (new_record which kind (record_at im kind i)) ≡ record_size (edition_after which) kind
    new-long i h = sym (ap length (new-record which im kind i h)) ∙ new-sized i (omega (arith, new-count which im kind))

    pub new-kind-long : (place : ℕ) → length (new_kind which im kind place) ≡ 512 * new_blocks which im kind
    new-kind-long place =
        sym (ap length (kind-is place)) ∙ kind-long (edition_after which) kind (new_records which im kind) new-sized place
        ∙ ap (λ (n : ℕ). 512 * blocks_for (new_capacity which kind) n) (new-count which im kind)

-- ---- the image
pub moved_length : (which : Move) (im : List ℕ) → Fitted im → edition_of im ≡ One
    → length (new_image which im) ≡ 512 * (1 + new_blocks which im Component + new_blocks which im Label + new_blocks which im User)
unfolding new_image
moved_length which im fit one =
    image-length (new_counts which im) (new_records which im) (new-fits which im fit one).sizes
    ∙ rw (new-count which im Component, new-count which im Label, new-count which im User)
