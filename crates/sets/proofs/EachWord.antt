-- Sets of several words, word by word: what an operation or a test of two such sets does to their words, one place put in or taken out, the
-- places below n, and the lowest place. Each law holds for any number of words. The tests are joined from the left, as the code joins
-- them: `t0 & t1 & t2`. Assumes nothing.
use mathlib.Core.Path.{◌≡◌, refl, sym, ap, ap₂, ◌∙◌, fun_ext, subst}
use mathlib.Core.Bool.{Bool, true, false, not, ◌&&◌, ◌||◌, and-true, or-false, and_assoc, or_assoc}
use mathlib.Core.List.{List, [], ◌∷◌, map, zip_with, foldl}
use Prim.Native.Nat.{ℕ, zero, suc, ◌+◌, ◌-◌, ◌*◌, ◌/◌, ◌%◌, ◌^◌, ◌≤◌, ◌<◌, min}
use native.Mathlib.Nat.{mod-eq_of_lt}
use native.Mathlib.Omega.{arith}
use borrow.Author.Tests.{eqb-true, eqb-false, eq-eqb, ne_eqb, ltb-true, ltb-false, lt-ltb, le-ltb}
use lib.Bits.{bit_and, and_block, and_lt}
use lib.Dec.{eqb, ltb}
use lib.ListN.{length, get_or, set}
use lib.Pow.{high, low}
use lib.Seq.{get_or-set_same, get_or-set_other}
use Rattle.sets.specs.Sets.{has, one, all_below, union, intersection, difference, within, meets, empty, Lowest}
use Rattle.sets.specs.Words.{word_of, words_of, joined}
use Rattle.sets.proofs.Has.{has-ext, none_has, one_has, all_below-has, union-has, intersection-has, difference-has}
use Rattle.sets.proofs.Bounds.{all_below-below}
use Rattle.sets.proofs.Lowest.{lowest-in}
use Rattle.sets.proofs.Words.{AreWords, word_of-has, word_of-zero, word_of-suc, joined-first, joined-past, joined-has, joined-whole}

-- ---- an operation that goes place by place: f on the tests

module _ (op : ℕ → ℕ → ℕ) (f : Bool → Bool → Bool) (op-has : (a b p : ℕ) → has (op a b) p ≡ f (has a p) (has b p)) where
  zip-get_or : op 0 0 ≡ 0 → (a b : List ℕ) → length a ≡ length b
      → (k : ℕ) → get_or (zip_with op a b) k 0 ≡ op (get_or a k 0) (get_or b k 0)
  unfolding zip_with
  zip-get_or z [] [] e k = sym z
  zip-get_or z [] (y ∷ b) e k = absurd (omega arith)
  zip-get_or z (x ∷ a) [] e k = absurd (omega arith)
  zip-get_or z (x ∷ a) (y ∷ b) e zero = refl
  zip-get_or z (x ∷ a) (y ∷ b) e (suc k) = zip-get_or z a b (omega arith) k

  zip-joined : op 0 0 ≡ 0 → (a b : List ℕ) → length a ≡ length b → joined (zip_with op a b) ≡ op (joined a) (joined b)
  zip-joined z a b e =
      has-ext (joined (zip_with op a b)) (op (joined a) (joined b))
      (λ p.
      joined-has (zip_with op a b) p
      ∙ ap (λ (w : ℕ). has w (p % 64)) (zip-get_or z a b e (p / 64))
      ∙ op-has (get_or a (p / 64) 0) (get_or b (p / 64) 0) (p % 64)
      ∙ sym (op-has (joined a) (joined b) p ∙ ap₂ f (joined-has a p) (joined-has b p)))

  -- with a set of one place: only that place's word changes
  set-joined : ((t : Bool) → f t false ≡ t) → (ws : List ℕ) (k q n : ℕ) → k < length ws → q < 64 → n ≡ 64 * k + q
      → joined (set ws k (op (get_or ws k 0) (one q))) ≡ op (joined ws) (one n)
  set-joined unit ws k q n l h is =
      has-ext (joined (set ws k w)) (op (joined ws) (one n))
      (λ p.
      joined-has (set ws k w) p
      ∙ at p (eqb (p / 64) k) refl ∙ sym (op-has (joined ws) (one n) p ∙ ap₂ f (joined-has ws p) (one_has n p)))
    where
      w : ℕ
      w = op (get_or ws k 0) (one q)

      place : (p : ℕ) → p / 64 ≡ k → (t : Bool) → eqb q (p % 64) ≡ t → eqb n p ≡ t
      place p e true d = eq-eqb n p (omega (arith, eqb-true q (p % 64) d))
      place p e false d = ne_eqb n p (λ (j : n ≡ p). eqb-false q (p % 64) d (omega arith))

      at : (p : ℕ) (t : Bool) → eqb (p / 64) k ≡ t
          → has (get_or (set ws k w) (p / 64) 0) (p % 64) ≡ f (has (get_or ws (p / 64) 0) (p % 64)) (eqb n p)
      at p true e =
          let same = eqb-true (p / 64) k e in
          ap (λ (i : ℕ). has (get_or (set ws k w) i 0) (p % 64)) same
          ∙ ap (λ (x : ℕ). has x (p % 64)) (get_or-set_same ws k w 0 l)
          ∙ op-has (get_or ws k 0) (one q) (p % 64)
          ∙ ap₂ f (ap (λ (i : ℕ). has (get_or ws i 0) (p % 64)) (sym same))
          (one_has q (p % 64) ∙ sym (place p same (eqb q (p % 64)) refl))
      at p false e =
          let other = eqb-false (p / 64) k e in
          let t = has (get_or ws (p / 64) 0) (p % 64) in
          ap (λ (x : ℕ). has x (p % 64)) (get_or-set_other ws k (p / 64) w 0 other)
          ∙ sym (ap (f t) (ne_eqb n p (λ (j : n ≡ p). other (omega arith))) ∙ unit t)

pub joined-union : (a b : List ℕ) → length a ≡ length b → joined (zip_with union a b) ≡ union (joined a) (joined b)
joined-union = zip-joined union (λ s t. s || t) union-has refl

pub joined-intersection : (a b : List ℕ) → length a ≡ length b
    → joined (zip_with intersection a b) ≡ intersection (joined a) (joined b)
joined-intersection = zip-joined intersection (λ s t. s && t) intersection-has refl

pub joined-difference : (a b : List ℕ) → length a ≡ length b
    → joined (zip_with difference a b) ≡ difference (joined a) (joined b)
unfolding difference
joined-difference = zip-joined difference (λ s t. s && not t) difference-has refl

-- place n, which is place q of word k, put in
pub joined-with : (ws : List ℕ) (k q n : ℕ) → k < length ws → q < 64 → n ≡ 64 * k + q
    → joined (set ws k (union (get_or ws k 0) (one q))) ≡ union (joined ws) (one n)
joined-with = set-joined union (λ s t. s || t) union-has or-false

-- and taken out
pub joined-without : (ws : List ℕ) (k q n : ℕ) → k < length ws → q < 64 → n ≡ 64 * k + q
    → joined (set ws k (difference (get_or ws k 0) (one q))) ≡ difference (joined ws) (one n)
joined-without = set-joined difference (λ s t. s && not t) difference-has and-true

-- ---- tests, of words that are below 2 ^ 64

-- a test of two sets by their words: g joins the words' answers, and u is its unit
module _ (g : Bool → Bool → Bool) (u : Bool) (assoc : (s t r : Bool) → g (g s t) r ≡ g s (g t r))
    (left : (t : Bool) → g u t ≡ t) (right : (t : Bool) → g t u ≡ t)
    (test : ℕ → ℕ → Bool) (ends : test 0 0 ≡ u)
    (step : (x y h k : ℕ) → x < 2 ^ 64 → y < 2 ^ 64 → test (x + 2 ^ 64 * h) (y + 2 ^ 64 * k) ≡ g (test x y) (test h k)) where
  fold-from : (t : Bool) (ts : List Bool) → foldl g t ts ≡ g t (foldl g u ts)
  fold-from t [] = sym (right t)
  fold-from t (s ∷ ts) =
      fold-from (g t s) ts
      ∙ assoc t s (foldl g u ts)
      ∙ ap (g t) (sym (ap (λ (r : Bool). foldl g r ts) (left s) ∙ fold-from s ts))

  test-joined : (a b : List ℕ) → length a ≡ length b → AreWords a → AreWords b
      → foldl g u (zip_with test a b) ≡ test (joined a) (joined b)
  unfolding zip_with joined
  test-joined [] [] e h k = sym ends
  test-joined [] (y ∷ b) e h k = absurd (omega arith)
  test-joined (x ∷ a) [] e h k = absurd (omega arith)
  test-joined (x ∷ a) (y ∷ b) e h k =
      ap (λ (r : Bool). foldl g r (zip_with test a b)) (left (test x y))
      ∙ fold-from (test x y) (zip_with test a b)
      ∙ ap (g (test x y)) (test-joined a b (omega arith) h.1 k.1)
      ∙ sym
      (ap₂ (λ (v w : ℕ). test (v + 2 ^ 64 * joined a) (w + 2 ^ 64 * joined b)) (mod-eq_of_lt h.0) (mod-eq_of_lt k.0)
      ∙ step x y (joined a) (joined b) h.0 k.0)

above-digits : (x h : ℕ) → x + 2 ^ 64 * h ≡ h * 2 ^ 64 + x
above-digits x h = omega arith

module _ (x y h k : ℕ) (v : x < 2 ^ 64) (w : y < 2 ^ 64) where
  above-eqb : eqb (x + 2 ^ 64 * h) (y + 2 ^ 64 * k) ≡ (eqb x y && eqb h k)
  above-eqb = at (eqb x y) refl (eqb h k) refl
    where
      words : x + 2 ^ 64 * h ≡ y + 2 ^ 64 * k → x ≡ y
      words e =
          sym (low h 64 v) ∙ ap (λ (s : ℕ). s % 2 ^ 64) (sym (above-digits x h) ∙ e ∙ above-digits y k) ∙ low k 64 w

      rests : x + 2 ^ 64 * h ≡ y + 2 ^ 64 * k → h ≡ k
      rests e =
          sym (high h 64 v) ∙ ap (λ (s : ℕ). s / 2 ^ 64) (sym (above-digits x h) ∙ e ∙ above-digits y k) ∙ high k 64 w

      at : (s : Bool) → eqb x y ≡ s → (t : Bool) → eqb h k ≡ t → eqb (x + 2 ^ 64 * h) (y + 2 ^ 64 * k) ≡ (s && t)
      at true d true e =
          eq-eqb (x + 2 ^ 64 * h) (y + 2 ^ 64 * k)
          (ap₂ (λ (s t : ℕ). s + 2 ^ 64 * t) (eqb-true x y d) (eqb-true h k e))
      at true d false e = ne_eqb (x + 2 ^ 64 * h) (y + 2 ^ 64 * k) (λ j. eqb-false h k e (rests j))
      at false d t e = ne_eqb (x + 2 ^ 64 * h) (y + 2 ^ 64 * k) (λ j. eqb-false x y d (words j))

  above-and : bit_and (x + 2 ^ 64 * h) (y + 2 ^ 64 * k) ≡ bit_and x y + 2 ^ 64 * bit_and h k
  above-and =
      ap₂ bit_and (above-digits x h) (above-digits y k)
      ∙ and_block 64 h k x y v w ∙ sym (above-digits (bit_and x y) (bit_and h k))

above_within : (x y h k : ℕ) → x < 2 ^ 64 → y < 2 ^ 64
    → within (x + 2 ^ 64 * h) (y + 2 ^ 64 * k) ≡ (within x y && within h k)
unfolding within
above_within x y h k v w =
    ap (λ (s : ℕ). eqb s (x + 2 ^ 64 * h)) (above-and x y h k v w)
    ∙ above-eqb (bit_and x y) x (bit_and h k) h (and_lt 64 x y v w) v

above-meets : (x y h k : ℕ) → x < 2 ^ 64 → y < 2 ^ 64
    → meets (x + 2 ^ 64 * h) (y + 2 ^ 64 * k) ≡ (meets x y || meets h k)
unfolding meets
above-meets x y h k v w =
    ap (λ (s : ℕ). not (eqb s 0)) (above-and x y h k v w)
    ∙ ap not (above-eqb (bit_and x y) 0 (bit_and h k) 0 (and_lt 64 x y v w) (omega arith))
    ∙ not-and (eqb (bit_and x y) 0) (eqb (bit_and h k) 0)
  where
    not-and : (s t : Bool) → not (s && t) ≡ (not s || not t)
    not-and true t = refl
    not-and false t = refl

-- the words' answers joined from the left
abbrev pub all_of : List Bool → Bool
all_of = foldl (λ s t. s && t) true

abbrev pub any_of : List Bool → Bool
any_of = foldl (λ s t. s || t) false

pub joined-eqb : (a b : List ℕ) → length a ≡ length b → AreWords a → AreWords b
    → all_of (zip_with eqb a b) ≡ eqb (joined a) (joined b)
joined-eqb = test-joined (λ s t. s && t) true and_assoc (λ t. refl) and-true eqb refl above-eqb

pub joined-within : (a b : List ℕ) → length a ≡ length b → AreWords a → AreWords b
    → all_of (zip_with within a b) ≡ within (joined a) (joined b)
unfolding within
joined-within = test-joined (λ s t. s && t) true and_assoc (λ t. refl) and-true within refl above_within

pub joined_meets : (a b : List ℕ) → length a ≡ length b → AreWords a → AreWords b
    → any_of (zip_with meets a b) ≡ meets (joined a) (joined b)
unfolding meets
joined_meets = test-joined (λ s t. s || t) false or_assoc (λ t. refl) or-false meets refl above-meets

pub joined-empty : (ws : List ℕ) → AreWords ws → all_of (map empty ws) ≡ empty (joined ws)
unfolding empty zip_with
joined-empty ws h =
    ap all_of (twice ws)
    ∙ test-joined (λ s t. s && t) true and_assoc (λ t. refl) and-true (λ x y. empty x) refl
    (λ x y h k v w. above-eqb x 0 h 0 v (omega arith)) ws ws refl h h
  where
    twice : (l : List ℕ) → map empty l ≡ zip_with (λ x y. empty x) l l
    twice [] = refl
    twice (x ∷ l) = ap (λ (ts : List Bool). empty x ∷ ts) (twice l)

-- ---- the places below n

pub word_of-all_below : (n k : ℕ) → word_of (all_below n) k ≡ all_below (min 64 (n - 64 * k))
word_of-all_below n k =
    has-ext (word_of (all_below n) k) (all_below (min 64 (n - 64 * k)))
    (λ p.
    word_of-has (all_below n) k p
    ∙ ap (λ (t : Bool). t && ltb p 64) (all_below-has n (64 * k + p))
    ∙ at p (ltb (64 * k + p) n) (ltb p 64) refl refl
    ∙ sym (all_below-has (min 64 (n - 64 * k)) p))
  where
    at : (p : ℕ) (s t : Bool) → ltb (64 * k + p) n ≡ s → ltb p 64 ≡ t → (s && t) ≡ ltb p (min 64 (n - 64 * k))
    at p true true h l = sym (lt-ltb p (min 64 (n - 64 * k)) (omega (arith, ltb-true (64 * k + p) n h, ltb-true p 64 l)))
    at p true false h l = sym (le-ltb p (min 64 (n - 64 * k)) (omega (arith, ltb-false p 64 l)))
    at p false t h l = sym (le-ltb p (min 64 (n - 64 * k)) (omega (arith, ltb-false (64 * k + p) n h)))

-- the words f 0 to f (m - 1)
abbrev pub each : (ℕ → ℕ) → ℕ → List ℕ
each f zero = []
each f (suc m) = f 0 ∷ each (λ k. f (suc k)) m

pub each-word_of : (m s : ℕ) → each (word_of s) m ≡ words_of m s
unfolding words_of
each-word_of zero s = refl
each-word_of (suc m) s =
    ap₂ (λ (w : ℕ) (ws : List ℕ). w ∷ ws) (word_of-zero s)
    (ap (λ (f : ℕ → ℕ). each f m) (fun_ext (word_of-suc s)) ∙ each-word_of m (s / 2 ^ 64))

pub joined-all_below : (m n : ℕ) → n ≤ 64 * m → joined (each (λ k. all_below (min 64 (n - 64 * k))) m) ≡ all_below n
joined-all_below m n h =
    ap (λ (f : ℕ → ℕ). joined (each f m)) (fun_ext (λ k. sym (word_of-all_below n k)))
    ∙ ap joined (each-word_of m (all_below n)) ∙ joined-whole m (all_below n) (all_below-below n (64 * m) h)

-- ---- the lowest place

in-first : (n w : ℕ) (ws : List ℕ) (q : ℕ) → Lowest 64 w q → q ≤ n → (q < n → q < 64) → Lowest n (joined (w ∷ ws)) q
in-first n w ws q l h f =
    record {
      upto = h;
      here = λ m. joined-first w ws q (f m) ∙ l.here (f m);
      lower = λ p m. joined-first w ws p (omega (arith, l.upto)) ∙ l.lower p m;
    }

-- in the first word
pub lowest-here : (w : ℕ) (ws : List ℕ) (q : ℕ) → Lowest 64 w q → q < 64 → Lowest (64 * length (w ∷ ws)) (joined (w ∷ ws)) q
lowest-here w ws q l h = in-first (64 * length (w ∷ ws)) w ws q l (omega arith) (λ m. h)

-- past a first word that has no place
pub lowest-past : (w : ℕ) (ws : List ℕ) (q r : ℕ) → Lowest 64 w q → 64 ≤ q → Lowest (64 * length ws) (joined ws) r
    → Lowest (64 * length (w ∷ ws)) (joined (w ∷ ws)) (64 + r)
lowest-past w ws q r l h m =
    record {
      upto = omega (arith, m.upto);
      here = λ j. joined-past w ws r ∙ m.here (omega arith);
      lower = λ p j. at p j (ltb p 64) refl;
    }
  where
    at : (p : ℕ) → p < 64 + r → (t : Bool) → ltb p 64 ≡ t → has (joined (w ∷ ws)) p ≡ false
    at p j true e =
        let i = ltb-true p 64 e in
        joined-first w ws p i ∙ l.lower p (omega arith)
    at p j false e =
        let i : p ≡ 64 + (p - 64) = omega (arith, ltb-false p 64 e) in
        ap (has (joined (w ∷ ws))) i ∙ joined-past w ws (p - 64) ∙ m.lower (p - 64) (omega arith)

-- the first word has a place, or it has none and the rest tells
module _ (w : ℕ) (ws : List ℕ) where
  pub lowest-found : (q : ℕ) → w < 2 ^ 64 → (w ≡ 0 → ⊥) → Lowest 64 w q → Lowest (64 * length (w ∷ ws)) (joined (w ∷ ws)) q
  unfolding empty
  lowest-found q h some l = lowest-here w ws q l (lowest-in 64 w q l h (ne_eqb w 0 some)).0

  pub lowest-rest : (r p : ℕ) → w ≡ 0 → p ≡ 64 + r → Lowest (64 * length ws) (joined ws) r → Lowest (64 * length (w ∷ ws)) (joined (w ∷ ws)) p
  lowest-rest r p zeros e m =
      subst (λ (x : ℕ). Lowest (64 * length (w ∷ ws)) (joined (w ∷ ws)) x) (sym e)
      (lowest-past w ws 64 r (record { upto = omega arith; here = λ h. absurd (omega arith); lower = λ q h. rw zeros (none_has q) }) (omega arith) m)

-- the last word, which may have no place
pub lowest-last : (w q : ℕ) → Lowest 64 w q → Lowest 64 (joined (w ∷ [])) q
lowest-last w q l = in-first 64 w [] q l l.upto (λ m. m)

-- ---- four words, one by one
pub four_are : (ws : List ℕ) → length ws ≡ 4 → get_or ws 0 0 ∷ get_or ws 1 0 ∷ get_or ws 2 0 ∷ get_or ws 3 0 ∷ [] ≡ ws
four_are [] e = absurd (omega arith)
four_are (a ∷ []) e = absurd (omega arith)
four_are (a ∷ b ∷ []) e = absurd (omega arith)
four_are (a ∷ b ∷ c ∷ []) e = absurd (omega arith)
four_are (a ∷ b ∷ c ∷ d ∷ []) e = refl
four_are (a ∷ b ∷ c ∷ d ∷ x ∷ ws) e = absurd (omega arith)
