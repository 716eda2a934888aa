-- Sets and their words: which places a set of several words has, and that a set and its words give each other. `joined` takes each word's
-- remainder, so only a law that gives a word back asks that it is below 2 ^ 64. Assumes nothing.
use Prim.{Unit}
use mathlib.Core.Path.{◌≡◌, refl, sym, ap, ap₂, ◌∙◌}
use mathlib.Core.Bool.{Bool, ◌&&◌, and-true}
use mathlib.Core.List.{List, [], ◌∷◌, map}
use Prim.Native.Nat.{ℕ, zero, suc, ◌+◌, ◌*◌, ◌/◌, ◌%◌, ◌^◌, ◌<◌}
use native.Mathlib.Nat.{div-one, zero-div, mod-lt, mod-mod, mod-one, mod-eq_of_lt, le_of_suc-le-suc}
use native.Mathlib.Omega.{arith}
use borrow.Author.Tests.{lt-ltb}
use lib.Arith.{digits_lt}
use lib.Bits.{and_mask}
use lib.Dec.{eqb, ltb}
use lib.ListN.{length, get_or, replicate}
use lib.Pow.{pow_pos, pow-add, shr-shr, high, low, mod-pow-add}
use Rattle.sets.specs.Sets.{has, none, all_below}
use Rattle.sets.specs.Words.{word_of, words_of, joined}
use Rattle.sets.proofs.Has.{intersection-has, all_below-has}

-- ---- the places of a part of a set

-- the places from n on, moved down by n
pub moved-has : (s n p : ℕ) → has (s / 2 ^ n) p ≡ has s (n + p)
unfolding has
moved-has s n p = ap (λ (x : ℕ). eqb (x % 2) 1) (shr-shr s n p)

-- the places below n
pub low-has : (s n p : ℕ) → has (s % 2 ^ n) p ≡ (has s p && ltb p n)
unfolding all_below
low-has s n p =
    ap (λ (x : ℕ). has x p) (sym (and_mask s n))
    ∙ intersection-has s (all_below n) p ∙ ap (λ (t : Bool). has s p && t) (all_below-has n p)

pub low_same : (s n p : ℕ) → p < n → has (s % 2 ^ n) p ≡ has s p
low_same s n p h = low-has s n p ∙ ap (λ (t : Bool). has s p && t) (lt-ltb p n h) ∙ and-true (has s p)

-- ---- the words of a set

pub word_of-has : (s k p : ℕ) → has (word_of s k) p ≡ (has s (64 * k + p) && ltb p 64)
word_of-has s k p = low-has (s / 2 ^ (64 * k)) 64 p ∙ ap (λ (t : Bool). t && ltb p 64) (moved-has s (64 * k) p)

pub word_of-zero : (s : ℕ) → word_of s 0 ≡ s % 2 ^ 64
word_of-zero s = ap (λ (x : ℕ). x % 2 ^ 64) (div-one s)

pub word_of-suc : (s k : ℕ) → word_of s (suc k) ≡ word_of (s / 2 ^ 64) k
word_of-suc s k =
    ap (λ (x : ℕ). x % 2 ^ 64)
    (ap (λ (n : ℕ). s / 2 ^ n) more ∙ sym (shr-shr s 64 (64 * k)))
  where
    more : 64 * suc k ≡ 64 + 64 * k
    more = omega arith

-- place p is place p % 64 of word p / 64
pub has-word_of : (s p : ℕ) → has s p ≡ has (word_of s (p / 64)) (p % 64)
has-word_of s p =
    ap (has s) place
    ∙ sym (moved-has s (64 * (p / 64)) (p % 64)) ∙ sym (low_same (s / 2 ^ (64 * (p / 64))) 64 (p % 64) (omega arith))
  where
    place : p ≡ 64 * (p / 64) + p % 64
    place = omega arith

pub words_of-get_or : (n s k : ℕ) → k < n → get_or (words_of n s) k 0 ≡ word_of s k
unfolding words_of
words_of-get_or zero s k h = absurd (omega arith)
words_of-get_or (suc n) s zero h = sym (word_of-zero s)
words_of-get_or (suc n) s (suc k) h = words_of-get_or n (s / 2 ^ 64) k (le_of_suc-le-suc h) ∙ sym (word_of-suc s k)

-- ---- a set of words

module _ (w : ℕ) (ws : List ℕ) where
  joined-digits : joined (w ∷ ws) ≡ joined ws * 2 ^ 64 + w % 2 ^ 64
  unfolding joined
  joined-digits = omega arith

  pub joined-low : joined (w ∷ ws) % 2 ^ 64 ≡ w % 2 ^ 64
  joined-low = ap (λ (x : ℕ). x % 2 ^ 64) joined-digits ∙ low (joined ws) 64 (mod-lt w (pow_pos 64))

  pub joined-rest : joined (w ∷ ws) / 2 ^ 64 ≡ joined ws
  joined-rest = ap (λ (x : ℕ). x / 2 ^ 64) joined-digits ∙ high (joined ws) 64 (mod-lt w (pow_pos 64))

  -- the places of the first word
  pub joined-first : (p : ℕ) → p < 64 → has (joined (w ∷ ws)) p ≡ has w p
  joined-first p h = sym (low_same (joined (w ∷ ws)) 64 p h) ∙ ap (λ (x : ℕ). has x p) joined-low ∙ low_same w 64 p h

  -- the places past it
  pub joined-past : (p : ℕ) → has (joined (w ∷ ws)) (64 + p) ≡ has (joined ws) p
  joined-past p = sym (moved-has (joined (w ∷ ws)) 64 p) ∙ ap (λ (x : ℕ). has x p) joined-rest

pub word_of-joined : (ws : List ℕ) (k : ℕ) → word_of (joined ws) k ≡ get_or ws k 0 % 2 ^ 64
unfolding joined
word_of-joined [] k = ap (λ (x : ℕ). x % 2 ^ 64) (zero-div (2 ^ (64 * k)))
word_of-joined (w ∷ ws) zero = word_of-zero (joined (w ∷ ws)) ∙ joined-low w ws
word_of-joined (w ∷ ws) (suc k) =
    word_of-suc (joined (w ∷ ws)) k ∙ ap (λ (s : ℕ). word_of s k) (joined-rest w ws) ∙ word_of-joined ws k

-- past the last word there is no place
pub joined-has : (ws : List ℕ) (p : ℕ) → has (joined ws) p ≡ has (get_or ws (p / 64) 0) (p % 64)
joined-has ws p =
    has-word_of (joined ws) p
    ∙ ap (λ (w : ℕ). has w (p % 64)) (word_of-joined ws (p / 64)) ∙ low_same (get_or ws (p / 64) 0) 64 (p % 64) (omega arith)

one_more : (n : ℕ) → 64 * suc n ≡ 64 * n + 64
one_more n = omega arith

pub joined-below : (ws : List ℕ) → joined ws < 2 ^ (64 * length ws)
unfolding joined
joined-below [] = omega arith
joined-below (w ∷ ws) =
    rw (joined-digits w ws, one_more (length ws), pow-add 2 (64 * length ws) 64)
    (digits_lt (joined-below ws) (mod-lt w (pow_pos 64)))

-- empty words
pub joined-none : (n : ℕ) → joined (replicate n 0) ≡ none
unfolding joined
joined-none zero = refl
joined-none (suc n) = omega (arith, joined-none n)

-- ---- a set into words and back

pub joined-words_of : (n s : ℕ) → joined (words_of n s) ≡ s % 2 ^ (64 * n)
unfolding words_of joined
joined-words_of zero s = sym (mod-one s)
joined-words_of (suc n) s =
    joined-digits (s % 2 ^ 64) (words_of n (s / 2 ^ 64))
    ∙ ap₂ (λ (x y : ℕ). x * 2 ^ 64 + y) (joined-words_of n (s / 2 ^ 64)) (mod-mod s (2 ^ 64))
    ∙ sym (ap (λ (m : ℕ). s % 2 ^ m) (one_more n) ∙ mod-pow-add s (64 * n) 64)

pub joined-whole : (n s : ℕ) → s < 2 ^ (64 * n) → joined (words_of n s) ≡ s
joined-whole n s h = joined-words_of n s ∙ mod-eq_of_lt h

pub words_of-joined : (ws : List ℕ) → words_of (length ws) (joined ws) ≡ map (λ w. w % 2 ^ 64) ws
unfolding words_of
words_of-joined [] = refl
words_of-joined (w ∷ ws) =
    ap₂ (λ (x : ℕ) (xs : List ℕ). x ∷ xs) (joined-low w ws)
    (ap (words_of (length ws)) (joined-rest w ws) ∙ words_of-joined ws)

-- a word alone, with empty words past it
pub joined-alone : (w n : ℕ) → w < 2 ^ 64 → joined (w ∷ replicate n 0) ≡ w
joined-alone w n h = omega (arith, joined-digits w (replicate n 0), joined-none n, mod-eq_of_lt h)

-- ---- words that are below 2 ^ 64

-- each number of the list is below 2 ^ 64
abbrev pub AreWords : List ℕ → Type 0
AreWords [] = Unit {0}
AreWords (w ∷ ws) = (w < 2 ^ 64) × AreWords ws

get_or-word : (ws : List ℕ) (k : ℕ) → AreWords ws → get_or ws k 0 < 2 ^ 64
get_or-word [] k h = pow_pos 64
get_or-word (w ∷ ws) zero h = h.0
get_or-word (w ∷ ws) (suc k) h = get_or-word ws k h.1

pub word_of-kept : (ws : List ℕ) (k : ℕ) → AreWords ws → word_of (joined ws) k ≡ get_or ws k 0
word_of-kept ws k h = word_of-joined ws k ∙ mod-eq_of_lt (get_or-word ws k h)
