-- What is read from bytes that two runs have in common, and a set of groups that is made wider. Assumes nothing.
use Prim.Native.Nat.{ℕ, ◌+◌, ◌≤◌, ◌<◌}
use mathlib.Core.Path.{◌≡◌, sym, ap, ◌∙◌}
use mathlib.Core.List.{List, ◌++◌}
use native.Mathlib.Nat.{add-zero, add_assoc}
use native.Mathlib.Omega.{arith}
use lib.ListN.{length, take, length-append}
use lib.Seq.{take_all, drop_at}
use Rattle.fields.specs.Bytes.{byte_at, part, number2, number4, number8}
use Rattle.fields.proofs.Laws.{part_length, part-byte, part-part}
use Rattle.sets.specs.Words.{joined}
use Rattle.header.specs.declared.edition.Edition.TheVariants.{One, Two}
use Rattle.records.specs.Fields.{groups_at}
use Rattle.writing.specs.Laid.{zeros}
use Rattle.writing.proofs.Sealed.{part-first, zeros-length}
use Rattle.moves.specs.Moved.{wide_set}

-- the second of two runs, one after the other
pub part-next : (s t : List ℕ) (k n : ℕ) → length s ≡ k → length t ≡ n → part (s ++ t) k n ≡ t
part-next s t k n e d = ap (take n) (drop_at s t k e) ∙ take_all n t (omega arith)

-- ---- numbers, from the part that holds their bytes
module _ (s : List ℕ) (k : ℕ) where
  pub number2-part : number2 s k ≡ number2 (part s k 2) 0
  unfolding number2
  number2-part = rw (part-byte s k 2 0 (omega arith), part-byte s k 2 1 (omega arith), add-zero)

  number4-part : number4 s k ≡ number4 (part s k 4) 0
  unfolding number4 number2
  number4-part =
      rw (
        part-byte s k 4 0 (omega arith),
        part-byte s k 4 1 (omega arith),
        part-byte s k 4 2 (omega arith),
        part-byte s k 4 3 (omega arith),
        add-zero,
        add_assoc k 2 1,
      )

  number8-part : number8 s k ≡ number8 (part s k 8) 0
  unfolding number8 number4 number2
  number8-part =
      rw (
        part-byte s k 8 0 (omega arith),
        part-byte s k 8 1 (omega arith),
        part-byte s k 8 2 (omega arith),
        part-byte s k 8 3 (omega arith),
        part-byte s k 8 4 (omega arith),
        part-byte s k 8 5 (omega arith),
        part-byte s k 8 6 (omega arith),
        part-byte s k 8 7 (omega arith),
        add-zero,
        add_assoc k 2 1,
        add_assoc k 4 1,
        add_assoc k 4 2,
        add_assoc k 6 1,
      )

-- ---- s has from k on the n bytes that t has from j on
module _ (s t : List ℕ) (k j n : ℕ) (same : part s k n ≡ part t j n) (i : ℕ) where
  pub same-part : (m : ℕ) → i + m ≤ n → part s (k + i) m ≡ part t (j + i) m
  same-part m h = sym (part-part s k n i m h) ∙ ap (λ (x : List ℕ). part x i m) same ∙ part-part t j n i m h

  pub same_byte : i < n → byte_at s (k + i) ≡ byte_at t (j + i)
  same_byte h = sym (part-byte s k n i h) ∙ ap (λ (x : List ℕ). byte_at x i) same ∙ part-byte t j n i h

  pub same-number2 : i + 2 ≤ n → number2 s (k + i) ≡ number2 t (j + i)
  same-number2 h = number2-part s (k + i) ∙ ap (λ (x : List ℕ). number2 x 0) (same-part 2 h) ∙ sym (number2-part t (j + i))

  pub same-number4 : i + 4 ≤ n → number4 s (k + i) ≡ number4 t (j + i)
  same-number4 h = number4-part s (k + i) ∙ ap (λ (x : List ℕ). number4 x 0) (same-part 4 h) ∙ sym (number4-part t (j + i))

  pub same-number8 : i + 8 ≤ n → number8 s (k + i) ≡ number8 t (j + i)
  same-number8 h = number8-part s (k + i) ∙ ap (λ (x : List ℕ). number8 x 0) (same-part 8 h) ∙ sym (number8-part t (j + i))

-- ---- a set of groups, wider
module _ (rec : List ℕ) (k : ℕ) (inside : k + 8 ≤ length rec) where
  word-length : length (part rec k 8) ≡ 8
  word-length = part_length rec k 8 inside

  pub wide-length : length (wide_set rec k) ≡ 32
  wide-length = omega (arith, length-append (part rec k 8) (zeros 24), word-length, zeros-length 24)

  -- its first word is the set's, and the others are empty
  wide-first : part (wide_set rec k) 0 8 ≡ part rec k 8
  wide-first = part-first (part rec k 8) (zeros 24) 0 8 (omega (arith, word-length)) ∙ take_all 8 (part rec k 8) (omega (arith, word-length))

  wide-rest : part (wide_set rec k) 8 24 ≡ part (zeros 24) 0 24
  wide-rest = part-next (part rec k 8) (zeros 24) 8 24 word-length (zeros-length 24)

  -- so it is the set itself, wherever it stands
  module _ (s : List ℕ) (j : ℕ) (same : part s j 32 ≡ wide_set rec k) where
    first_word : number8 s j ≡ number8 rec k
    first_word =
        let front : part s j 8 ≡ part rec k 8 =
        ap (λ (i : ℕ). part s i 8) (sym (add-zero j)) ∙ sym (part-part s j 32 0 8 (omega arith)) ∙ ap (λ (x : List ℕ). part x 0 8) same ∙ wide-first in
        number8-part s j ∙ ap (λ (x : List ℕ). number8 x 0) front ∙ sym (number8-part rec k)

    other-words : part s (j + 8) 24 ≡ part (zeros 24) 0 24
    other-words = sym (part-part s j 32 8 24 (omega arith)) ∙ ap (λ (x : List ℕ). part x 8 24) same ∙ wide-rest

    other_word : (i : ℕ) → i + 8 ≤ 24 → number8 s (j + 8 + i) ≡ number8 (zeros 24) (0 + i)
    other_word i h = same-number8 s (zeros 24) (j + 8) 0 24 other-words i h

    second_word : number8 s (j + 8) ≡ 0
    unfolding number8 number4 number2
    second_word = ap (number8 s) (sym (add-zero (j + 8))) ∙ other_word 0 (omega arith)

    third-word : number8 s (j + 8 + 8) ≡ 0
    unfolding number8 number4 number2
    third-word = other_word 8 (omega arith)

    fourth-word : number8 s (j + 8 + 8 + 8) ≡ 0
    unfolding number8 number4 number2
    fourth-word = ap (number8 s) (add_assoc (j + 8) 8 8) ∙ other_word 16 (omega arith)

    pub wide-groups : groups_at Two s j ≡ groups_at One rec k
    unfolding groups_at joined
    wide-groups = rw (first_word, second_word, third-word, fourth-word)
