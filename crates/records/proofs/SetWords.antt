-- Several sets tested at once: a union or an intersection in place of two sets, and a set of several words word by word. Assumes nothing.
use Rattle.std.proofs.Common.{◌≡◌, ℕ, zero, suc, ◌+◌, ◌*◌, ◌/◌, ◌%◌, ◌^◌, ◌<◌, Bool, true, false, ◌&&◌, eqb, List, [], ◌∷◌, length, drop, sym, refl, ap, ◌∙◌, ap₂, le_of_eq, mod-lt, arith, drop_of_length-le, pow_pos, eq-eqb, eqb-true}
use mathlib.Core.Bool.{and_assoc, and-true}
use mathlib.Core.List.{zip_with}
use Rattle.fields.specs.Bytes.{part, number4, number8, all, all_zero}
use Rattle.fields.proofs.UnusedBytes.{four-zero, eight-zero, join-zero, rest_part}
use Rattle.fields.proofs.Both.{parts, both, same_truth}
use Rattle.fields.proofs.Words.{Bytes, word_low}
use Rattle.header.specs.declared.edition.Edition.TheVariants.{One, Two}
use Rattle.records.specs.Fields.{words_at, groups_at, read_compartments, write_compartments, default_compartments, row_compartments}
use Rattle.records.specs.Rules.{user_compartments_rule, user_groups_rule}
use Rattle.records.specs.Users.{four_within}
use Rattle.sets.specs.Sets.{union, intersection, within, empty, all_below}
use Rattle.sets.specs.Words.{word_of, words_of, joined}
use Rattle.sets.proofs.Bounds.{below-has}
use Rattle.sets.proofs.EachWord.{all_of, each, each-word_of, joined-within}
use Rattle.sets.proofs.Within.{within_has, has_within, within-trans, within-le, within-intersection, intersection-within-left, intersection-within-right, within-union-left, within-union-right, within-union-both}
use Rattle.sets.proofs.Words.{AreWords, low_same, joined-below, joined-words_of}

-- ---- two sets at once
pub union-within : (a b c : ℕ) → within (union a b) c ≡ (within a c && within b c)
union-within a b c =
    same_truth _ _
    (λ e. both _ _ (within-trans a (union a b) c (within-union-left a b) e) (within-trans b (union a b) c (within-union-right a b) e))
    (λ e. let p = parts _ _ e in within-union-both a b c p.0 p.1)

pub intersection-within : (a b c : ℕ) → within c (intersection a b) ≡ (within c a && within c b)
intersection-within a b c =
    same_truth _ _
    (λ e. both _ _ (within-trans c (intersection a b) a e (intersection-within-left a b))
    (within-trans c (intersection a b) b e (intersection-within-right a b)))
    (λ e. let p = parts _ _ e in within-intersection a b c p.0 p.1)

pub union-empty : (a b : ℕ) → empty (union a b) ≡ (eqb a 0 && eqb b 0)
unfolding empty
union-empty a b =
    same_truth _ _
    (λ e. let none : union a b ≡ 0 = eqb-true (union a b) 0 e in
    both _ _ (eq-eqb a 0 (omega (arith, within-le a (union a b) (within-union-left a b))))
    (eq-eqb b 0 (omega (arith, within-le b (union a b) (within-union-right a b)))))
    (λ e. let p = parts _ _ e in rw (eqb-true a 0 p.0, eqb-true b 0 p.1))

-- four words at once
pub four-within : (a b c d all : ℕ) → within (union (union a b) (union c d)) all ≡ (within a all && within b all && within c all && within d all)
four-within a b c d all =
    union-within (union a b) (union c d) all ∙ ap₂ ◌&&◌ (union-within a b all) (union-within c d all)
    ∙ sym (and_assoc (within a all && within b all) (within c all) (within d all))

-- three words at once
pub three-empty : (a b c : ℕ) → empty (union (union a b) c) ≡ (eqb a 0 && eqb b 0 && eqb c 0)
unfolding empty
three-empty a b c = union-empty (union a b) c ∙ ap (λ (t : Bool). t && eqb c 0) (union-empty a b)

-- ---- a user's compartments: write and default ones in read, row ones in default and in write
pub compartments-by : (rec : List ℕ) (count : ℕ)
    → (within (read_compartments rec) (all_below count) && within (union (write_compartments rec) (default_compartments rec)) (read_compartments rec)
    && within (row_compartments rec) (intersection (default_compartments rec) (write_compartments rec))) ≡ user_compartments_rule count rec
unfolding user_compartments_rule
compartments-by rec count =
    ap₂ (λ (s t : Bool). within (read_compartments rec) (all_below count) && s && t)
    (union-within (write_compartments rec) (default_compartments rec) (read_compartments rec))
    (intersection-within (default_compartments rec) (write_compartments rec) (row_compartments rec))
    ∙ regroup (within (read_compartments rec) (all_below count)) _ _ _ _
  where
    regroup : (a b c d e : Bool) → (a && (b && c) && (d && e)) ≡ (a && b && c && d && e)
    regroup true b c d e = sym (and_assoc (b && c) d e)
    regroup false b c d e = refl

-- ---- the words of a set
words_count : (n s : ℕ) → n ≡ length (words_of n s)
unfolding words_of
words_count zero s = refl
words_count (suc n) s = ap suc (words_count n (s / 2 ^ 64))

are_words : (n s : ℕ) → AreWords (words_of n s)
unfolding words_of
are_words zero s = tt
are_words (suc n) s = (mod-lt s (pow_pos 64), are_words n (s / 2 ^ 64))

-- places past those of a do not matter
low-within : (a s n : ℕ) → a < 2 ^ n → within a (s % 2 ^ n) ≡ within a s
low-within a s n h =
    same_truth _ _
    (λ e. has_within a s (λ p q. sym (low_same s n p (below-has a n h p q)) ∙ within_has a (s % 2 ^ n) e p q))
    (λ e. has_within a (s % 2 ^ n) (λ p q. low_same s n p (below-has a n h p q) ∙ within_has a s e p q))

-- a set of words lies in s exactly if each word lies in that of s
pub within-words : (ws : List ℕ) (s : ℕ) → AreWords ws → all_of (zip_with within ws (each (word_of s) (length ws))) ≡ within (joined ws) s
within-words ws s h =
    let n = length ws in
    ap (λ (l : List ℕ). all_of (zip_with within ws l)) (each-word_of n s)
    ∙ joined-within ws (words_of n s) (words_count n s) h (are_words n s)
    ∙ ap (within (joined ws)) (joined-words_of n s)
    ∙ low-within (joined ws) s (64 * n) (joined-below ws)

-- ---- the four sets of groups of a user, word by word
interchange : (a b c d : Bool) → (a && b && (c && d)) ≡ (a && c && (b && d))
interchange false b c d = refl
interchange true true c d = refl
interchange true false true d = refl
interchange true false false d = refl

-- the answers of four sets to some of their words, and to one word more
one_more : (a b c d e f g h : Bool) → (a && b && c && d && (e && f && g && h)) ≡ (a && e && (b && f) && (c && g) && (d && h))
one_more a b c d e f g h =
    interchange (a && b && c) d (e && f && g) h
    ∙ ap (λ (t : Bool). t && (d && h))
    (interchange (a && b) c (e && f) g ∙ ap (λ (t : Bool). t && (c && g)) (interchange a b e f))

-- f i k is the answer of set i to word k: by words, and by sets
module _ (f : ℕ → ℕ → Bool) where
  abbrev by_word : ℕ → Bool
  by_word k = f 0 k && f 1 k && f 2 k && f 3 k

  abbrev by-set : ℕ → Bool
  by-set i = f i 0 && f i 1 && f i 2 && f i 3

  either_way : (by_word 0 && by_word 1 && by_word 2 && by_word 3) ≡ (by-set 0 && by-set 1 && by-set 2 && by-set 3)
  either_way =
      ap (λ (t : Bool). t && by_word 2 && by_word 3) (one_more (f 0 0) (f 1 0) (f 2 0) (f 3 0) (f 0 1) (f 1 1) (f 2 1) (f 3 1))
      ∙ ap (λ (t : Bool). t && by_word 3)
      (one_more (f 0 0 && f 0 1) (f 1 0 && f 1 1) (f 2 0 && f 2 1) (f 3 0 && f 3 1) (f 0 2) (f 1 2) (f 2 2) (f 3 2))
      ∙ one_more (f 0 0 && f 0 1 && f 0 2) (f 1 0 && f 1 1 && f 1 2) (f 2 0 && f 2 1 && f 2 2) (f 3 0 && f 3 1 && f 3 2)
      (f 0 3) (f 1 3) (f 2 3) (f 3 3)

module _ (rec : List ℕ) (small : Bytes rec) (all : ℕ) where
  pub one_word : (k : ℕ) → within (number8 rec k) (word_of all 0) ≡ within (groups_at One rec k) all
  unfolding groups_at zip_with
  one_word k = within-words (number8 rec k ∷ []) all (word_low rec small k, tt)

  pub four-words : (k : ℕ)
      → (within (number8 rec k) (word_of all 0) && within (number8 rec (k + 8)) (word_of all 1)
      && within (number8 rec (k + 8 + 8)) (word_of all 2) && within (number8 rec (k + 8 + 8 + 8)) (word_of all 3))
      ≡ within (groups_at Two rec k) all
  unfolding groups_at zip_with
  four-words k =
      within-words (words_at 4 rec k) all
      (word_low rec small k, (word_low rec small (k + 8), (word_low rec small (k + 8 + 8), (word_low rec small (k + 8 + 8 + 8), tt))))

  pub user-words-one : (count : ℕ) → all ≡ all_below count → four_within rec 72 8 (word_of all 0) ≡ user_groups_rule One count rec
  unfolding user_groups_rule
  user-words-one count is = rw (← is, ← one_word 72, ← one_word 80, ← one_word 88, ← one_word 96)

  pub user-words-two : (count : ℕ) → all ≡ all_below count
      → (four_within rec 72 32 (word_of all 0) && four_within rec 80 32 (word_of all 1) && four_within rec 88 32 (word_of all 2)
      && four_within rec 96 32 (word_of all 3)) ≡ user_groups_rule Two count rec
  unfolding user_groups_rule
  user-words-two count is =
      rw (← is, ← four-words 72, ← four-words 104, ← four-words 136, ← four-words 168)
      (either_way (λ i k. within (number8 rec (72 + 32 * i + 8 * k)) (word_of all k)))

-- ---- the unused bytes of a user's record: in edition 1 three words at its end too
pub user-unused : (rec : List ℕ) → length rec ≡ 128
    → (eqb (number4 rec 36) 0 && empty (union (union (number8 rec 104) (number8 rec 112)) (number8 rec 120)))
    ≡ (all_zero (part rec 36 4) && all_zero (drop 104 rec))
user-unused rec long =
    ap₂ ◌&&◌ (four-zero rec 36)
    (three-empty (number8 rec 104) (number8 rec 112) (number8 rec 120)
    ∙ ap₂ (λ (s t : Bool). s && t) (ap₂ ◌&&◌ (eight-zero rec 104) (eight-zero rec 112) ∙ sym (join-zero rec 104 8 8)) (eight-zero rec 120)
    ∙ sym (join-zero rec 104 16 8) ∙ ap all_zero (sym (rest_part rec 104 24 long)))

pub user-unused-two : (rec : List ℕ) → length rec ≡ 200 → eqb (number4 rec 36) 0 ≡ (all_zero (part rec 36 4) && all_zero (drop 200 rec))
unfolding all
user-unused-two rec long =
    four-zero rec 36 ∙ sym (and-true (all_zero (part rec 36 4)))
    ∙ ap (λ (s : List ℕ). all_zero (part rec 36 4) && all_zero s) (sym (drop_of_length-le rec (le_of_eq long)))
