-- Eight bytes are zero exactly if the number that they make is, and those of two runs are the same exactly if their numbers are.
-- Assumes nothing.
use Prim.Native.Nat.{ℕ, zero, suc, ◌+◌, ◌-◌, ◌^◌, ◌≤◌, ◌<◌}
use mathlib.Core.Path.{◌≡◌, refl, sym, ap, ◌∙◌}
use mathlib.Core.Bool.{Bool, true, false}
use mathlib.Core.List.{List}
use mathlib.Core.Logic.{⊎_elim}
use native.Mathlib.Nat.{add-zero}
use native.Mathlib.Omega.{arith}
use lib.Dec.{eqb}
use lib.ListN.{length, get_or, drop}
use lib.Seq.{get_or-drop, ext_get_or}
use Rattle.fields.specs.Bytes.{part, number2, number4, number8, all_zero}
use Rattle.fields.specs.Names.{same_bytes}
use Rattle.fields.proofs.Both.{below_or}
use Rattle.fields.proofs.Laws.{all-at, part-byte}
use Rattle.fields.proofs.Meaning.{zero-means, same-means, same_refl}

module _ (s : List ℕ) (i : ℕ) where
  -- a run of n zero bytes may be passed over
  pub zeros-pass : (n : ℕ) → i + n ≤ length s → ((j : ℕ) → j < n → get_or s (i + j) 0 ≡ 0)
      → all_zero (drop i s) ≡ all_zero (drop (i + n) s)
  zeros-pass zero h z = ap (λ (k : ℕ). all_zero (drop k s)) (sym (add-zero i))
  zeros-pass (suc n) h z =
      zeros-pass n (omega arith) (λ j l. z j (omega arith))
      ∙ all-at (λ x. eqb x 0) s (i + n) (omega arith)
      ∙ rw (z n (omega arith)) (let e : i + n + 1 ≡ i + suc n = omega arith in ap (λ (k : ℕ). all_zero (drop k s)) e)

  at_place : (k j : ℕ) → k ≡ i + j → get_or s k 0 ≡ 0 → get_or s (i + j) 0 ≡ 0
  at_place k j e z = ap (λ (p : ℕ). get_or s p 0) (sym e) ∙ z

  word-bytes : number8 s i ≡ 0 → (j : ℕ) → j < 8 → get_or s (i + j) 0 ≡ 0
  unfolding number8 number4 number2
  word-bytes e zero l = at_place i 0 (omega arith) (omega arith)
  word-bytes e (suc zero) l = at_place (i + 1) 1 (omega arith) (omega arith)
  word-bytes e (suc (suc zero)) l = at_place (i + 2) 2 (omega arith) (omega arith)
  word-bytes e (suc (suc (suc zero))) l = at_place (i + 2 + 1) 3 (omega arith) (omega arith)
  word-bytes e (suc (suc (suc (suc zero)))) l = at_place (i + 4) 4 (omega arith) (omega arith)
  word-bytes e (suc (suc (suc (suc (suc zero))))) l = at_place (i + 4 + 1) 5 (omega arith) (omega arith)
  word-bytes e (suc (suc (suc (suc (suc (suc zero)))))) l = at_place (i + 4 + 2) 6 (omega arith) (omega arith)
  word-bytes e (suc (suc (suc (suc (suc (suc (suc zero))))))) l = at_place (i + 4 + 2 + 1) 7 (omega arith) (omega arith)
  word-bytes e (suc (suc (suc (suc (suc (suc (suc (suc j)))))))) l = absurd (omega arith)

  pub word-zero : i + 8 ≤ length s → number8 s i ≡ 0 → all_zero (drop i s) ≡ all_zero (drop (i + 8) s)
  word-zero h e = zeros-pass 8 h (word-bytes e)

  bytes_word : ((k : ℕ) → get_or (drop i s) k 0 ≡ 0) → number8 s i ≡ 0
  unfolding number8 number4 number2
  bytes_word z =
      let b : (k : ℕ) → get_or s (i + k) 0 ≡ 0 = λ k. sym (get_or-drop i s k 0) ∙ z k in
      let at : (k j : ℕ) → k ≡ i + j → get_or s k 0 ≡ 0 = λ k j e. ap (λ (p : ℕ). get_or s p 0) e ∙ b j in
      omega (
        arith,
        at i 0 (omega arith),
        at (i + 1) 1 (omega arith),
        at (i + 2) 2 (omega arith),
        at (i + 2 + 1) 3 (omega arith),
        at (i + 4) 4 (omega arith),
        at (i + 4 + 1) 5 (omega arith),
        at (i + 4 + 2) 6 (omega arith),
        at (i + 4 + 2 + 1) 7 (omega arith),
      )

  pub word-bad : (number8 s i ≡ 0 → ⊥) → all_zero (drop i s) ≡ false
  word-bad n = go (all_zero (drop i s)) refl
    where
      go : (t : Bool) → all_zero (drop i s) ≡ t → t ≡ false
      go true e = absurd (n (bytes_word (zero-means (drop i s) e)))
      go false e = refl

-- ---- a word inside a part
pub word-part : (s : List ℕ) (k n i : ℕ) → i + 8 ≤ n → number8 (part s k n) i ≡ number8 s (k + i)
unfolding number8 number4 number2
word-part s k n i h =
    let at : (j q : ℕ) → j < n → k + j ≡ q → get_or (part s k n) j 0 ≡ get_or s q 0 = λ j q l e. part-byte s k n j l ∙ ap (λ (p : ℕ). get_or s p 0) e in
    rw (
      at i (k + i) (omega arith) (omega arith),
      at (i + 1) (k + i + 1) (omega arith) (omega arith),
      at (i + 2) (k + i + 2) (omega arith) (omega arith),
      at (i + 2 + 1) (k + i + 2 + 1) (omega arith) (omega arith),
      at (i + 4) (k + i + 4) (omega arith) (omega arith),
      at (i + 4 + 1) (k + i + 4 + 1) (omega arith) (omega arith),
      at (i + 4 + 2) (k + i + 4 + 2) (omega arith) (omega arith),
      at (i + 4 + 2 + 1) (k + i + 4 + 2 + 1) (omega arith) (omega arith),
    )

-- ---- the same eight bytes of two runs
-- a loop over words: the bytes before i are the same, and so is the last word, at `last`
pub record SameUpto (a b : List ℕ) (last i : ℕ) : Type 0 where
  pub ends : last + 8 ≡ length a
  pub long : length a ≡ length b
  pub passed : (j : ℕ) → j < i → get_or a j 0 ≡ get_or b j 0
  pub end : number8 a last ≡ number8 b last

abbrev pub Bytes : List ℕ → Type 0
Bytes s = (k : ℕ) → get_or s k 0 < 256

-- numbers of bytes are below the next power
two-low : (s : List ℕ) → Bytes s → (i : ℕ) → number2 s i < 65536
unfolding number2
two-low s small i = omega (arith, small i, small (i + 1))

four_low : (s : List ℕ) → Bytes s → (i : ℕ) → number4 s i < 4294967296
unfolding number4
four_low s small i = omega (arith, two-low s small i, two-low s small (i + 2))

pub word_low : (s : List ℕ) → Bytes s → (i : ℕ) → number8 s i < 2 ^ 64
unfolding number8
word_low s small i = omega (arith, four_low s small i, four_low s small (i + 4))

module _ (a b : List ℕ) (ba : Bytes a) (bb : Bytes b) where
  two-same : (i : ℕ) → number2 a i ≡ number2 b i → (get_or a i 0 ≡ get_or b i 0) × (get_or a (i + 1) 0 ≡ get_or b (i + 1) 0)
  unfolding number2
  two-same i e = omega (arith, ba i, bb i)

  four_same : (i : ℕ) → number4 a i ≡ number4 b i → (number2 a i ≡ number2 b i) × (number2 a (i + 2) ≡ number2 b (i + 2))
  unfolding number4
  four_same i e = omega (arith, two-low a ba i, two-low b bb i)

  eight-same : (i : ℕ) → number8 a i ≡ number8 b i → (number4 a i ≡ number4 b i) × (number4 a (i + 4) ≡ number4 b (i + 4))
  unfolding number8
  eight-same i e = omega (arith, four_low a ba i, four_low b bb i)

  -- equal words are equal bytes
  pub word_same : (i : ℕ) → number8 a i ≡ number8 b i → (j : ℕ) → j < 8 → get_or a (i + j) 0 ≡ get_or b (i + j) 0
  word_same i e = at
    where
      here : (j k : ℕ) → k ≡ i + j → get_or a k 0 ≡ get_or b k 0 → get_or a (i + j) 0 ≡ get_or b (i + j) 0
      here j k q z = rw (← q) z

      low : number4 a i ≡ number4 b i
      low = (eight-same i e).0

      high : number4 a (i + 4) ≡ number4 b (i + 4)
      high = (eight-same i e).1

      at : (j : ℕ) → j < 8 → get_or a (i + j) 0 ≡ get_or b (i + j) 0
      at zero h = here 0 i (omega arith) (two-same i (four_same i low).0).0
      at (suc zero) h = here 1 (i + 1) (omega arith) (two-same i (four_same i low).0).1
      at (suc (suc zero)) h = here 2 (i + 2) (omega arith) (two-same (i + 2) (four_same i low).1).0
      at (suc (suc (suc zero))) h = here 3 (i + 2 + 1) (omega arith) (two-same (i + 2) (four_same i low).1).1
      at (suc (suc (suc (suc zero)))) h = here 4 (i + 4) (omega arith) (two-same (i + 4) (four_same (i + 4) high).0).0
      at (suc (suc (suc (suc (suc zero))))) h = here 5 (i + 4 + 1) (omega arith) (two-same (i + 4) (four_same (i + 4) high).0).1
      at (suc (suc (suc (suc (suc (suc zero)))))) h = here 6 (i + 4 + 2) (omega arith) (two-same (i + 4 + 2) (four_same (i + 4) high).1).0
      at (suc (suc (suc (suc (suc (suc (suc zero))))))) h = here 7 (i + 4 + 2 + 1) (omega arith) (two-same (i + 4 + 2) (four_same (i + 4) high).1).1
      at (suc (suc (suc (suc (suc (suc (suc (suc j)))))))) h = absurd (omega arith)

  pub upto_next : (last i : ℕ) → SameUpto a b last i → number8 a i ≡ number8 b i → SameUpto a b last (i + 8)
  upto_next last i s e =
      record {
        ends = s.ends;
        long = s.long;
        passed = λ j h. ⊎_elim (λ l. s.passed j l)
            (λ l. let q : i + (j - i) ≡ j = omega arith in rw q at (word_same i e (j - i) (omega arith))) (below_or j i);
        end = s.end;
      }

  pub upto-end : (last i : ℕ) → SameUpto a b last i → last ≤ i → true ≡ same_bytes a b
  upto-end last i s h =
      let same : a ≡ b = ext_get_or 0 a b s.long (λ j l. ⊎_elim (λ m. s.passed j m)
      (λ m. let q : last + (j - last) ≡ j = omega arith in rw q at (word_same last s.end (j - last) (omega (arith, s.ends)))) (below_or j i)) in
      sym (ap (λ (s : List ℕ). same_bytes s b) same ∙ same_refl b)

-- a word that differs
pub word-differs : (a b : List ℕ) (i : ℕ) → (number8 a i ≡ number8 b i → ⊥) → false ≡ same_bytes a b
word-differs a b i n = at (same_bytes a b) refl
  where
    at : (t : Bool) → same_bytes a b ≡ t → false ≡ t
    at true e = absurd (n (ap (λ (s : List ℕ). number8 s i) (same-means a b e)))
    at false e = refl
