-- The 30 bytes after a name's length: what the test of each of them means, and that with the constant for the length it is the rule of the field.
-- Assumes nothing.
use Prim.Native.Nat.{ℕ, suc, ◌+◌, ◌-◌, ◌≤◌, ◌<◌}
use mathlib.Core.Path.{◌≡◌, refl, sym, ap, ◌∙◌}
use mathlib.Core.Bool.{Bool, true, false, cond, not, ◌&&◌, ◌||◌, beq, true≢false}
use mathlib.Core.List.{List, ◌∷◌}
use mathlib.Core.Logic.{⊎_elim}
use native.Mathlib.Nat.{zero-add}
use native.Mathlib.Numerals.{add-one}
use native.Mathlib.Omega.{arith}
use borrow.Author.Tests.{lt-ltb, le-ltb, eqb-true, eq-eqb}
use lib.Dec.{eqb, ltb}
use lib.ListN.{length, take, drop, length-take}
use lib.Seq.{get_or-take, take-take, drop-cons}
use Rattle.fields.specs.Bytes.{byte_at, part}
use Rattle.fields.specs.Names.{name_byte, name_in, name_rule, letter_at}
use Rattle.fields.specs.Scan.{everywhere, list_from}
use Rattle.fields.proofs.Both.{same_truth, below_or}
use Rattle.fields.proofs.Laws.{part-short, part-byte}
use Rattle.fields.proofs.Meaning.{NameByte, NameKept, byte-means, byte-holds, name-means, name-holds, name-length, name-byte-at}
use Rattle.fields.proofs.Scan.{everywhere-at, list_at}
use Rattle.fields.proofs.Everywhere.{everywhere-holds, everywhere-more}

-- ---- one byte more, as the loop joins its tests
-- e: those before it are right; s: it is one of the 30; z: it is zero; o: it is to be zero; g: it is of the alphabet
turn_by : (e s z o g : Bool) → (z ≡ true → g ≡ false) → (not e || s && (not (beq z o) || not z && not g)) ≡ not (e && (not s || cond o z g))
turn_by false s z o g h = refl
turn_by true false z o g h = refl
turn_by true true true true g h = refl
turn_by true true true false true h = absurd (true≢false (h refl))
turn_by true true true false false h = refl
turn_by true true false true g h = refl
turn_by true true false false g h = refl

zero-no-letter : (x : ℕ) → eqb x 0 ≡ true → name_byte x ≡ false
unfolding name_byte
zero-no-letter x e = rw (eqb-true x 0 e)

pub letters-next : (s inside : List ℕ) (j : ℕ) (bad : Bool) → bad ≡ not (everywhere (letter_at s inside) j 0)
    → (bad || ltb j 30 && (not (beq (eqb (byte_at s j) 0) (eqb (byte_at inside j) 0)) || not (eqb (byte_at s j) 0) && not (name_byte (byte_at s j))))
    ≡ not (everywhere (letter_at s inside) (j + 1) 0)
unfolding letter_at
letters-next s inside j bad e =
    let rule = letter_at s inside in
    rw e (turn_by (everywhere rule j 0) (ltb j 30) (eqb (byte_at s j) 0) (eqb (byte_at inside j) 0) (name_byte (byte_at s j)) (zero-no-letter (byte_at s j)))
    ∙ ap (λ (k : ℕ). not (everywhere rule j 0 && rule k)) (sym (zero-add j)) ∙ ap not (everywhere-more rule j 0)

-- ---- the constant beside the bytes: 30 that are not zero, then 32 zeros
abbrev mark : ℕ → ℕ
mark k = cond (ltb k 30) 49 0

abbrev marks : List ℕ
marks = list_from mark 62 0

module _ (w : List ℕ) (n : ℕ) (low : 1 ≤ n) (high : n ≤ 30) where
  -- from place 30 - n on, n of them that are not zero stand before the zeros
  abbrev inside : List ℕ
  inside = part marks (30 - n) 32

  inside-at : (i : ℕ) → i < 32 → byte_at inside i ≡ mark (0 + (30 - n + i))
  inside-at i h = part-byte marks (30 - n) 32 i h ∙ list_at mark 62 0 (30 - n + i) 0 (omega arith)

  -- ---- what the test of each byte means
  abbrev rule : ℕ → Bool
  rule = letter_at (take 32 w) inside

  rule-in : (i : ℕ) → i < n → rule i ≡ name_byte (byte_at w i)
  unfolding letter_at
  rule-in i h = rw (lt-ltb i 30 (omega arith), inside-at i (omega arith), lt-ltb (0 + (30 - n + i)) 30 (omega arith), get_or-take 32 w i 0 (omega arith))

  rule-past : (i : ℕ) → n ≤ i → i < 30 → rule i ≡ eqb (byte_at w i) 0
  unfolding letter_at
  rule-past i a b = rw (lt-ltb i 30 b, inside-at i (omega arith), le-ltb (0 + (30 - n + i)) 30 (omega arith), get_or-take 32 w i 0 (omega arith))

  rule-behind : (i : ℕ) → 30 ≤ i → rule i ≡ true
  unfolding letter_at
  rule-behind i h = rw (le-ltb i 30 h)

  -- ---- with the length the tests are the rule of the field
  abbrev field : List ℕ
  field = n ∷ take 30 w

  field-byte : (i : ℕ) → i < 30 → byte_at field (1 + i) ≡ byte_at w i
  field-byte i h = let e : 1 + i ≡ suc i = omega arith in ap (byte_at field) e ∙ get_or-take 30 w i 0 h

  name-short : length (name_in field) ≤ n
  unfolding name_in
  name-short = part-short field 1 n

  kept : everywhere rule 32 0 ≡ true → NameKept field
  kept e =
      let at : (i : ℕ) → i < 30 → rule i ≡ true = λ i h. everywhere-at rule 32 0 i e (omega arith) (omega arith) in
      record {
        shortest = low;
        longest = high;
        alphabet = λ i h. let within : i < n = omega (arith, name-short) in
            let same = name-byte-at field i within ∙ field-byte i (omega arith) in
            rw same (byte-means (byte_at w i) (sym (rule-in i within) ∙ at i (omega arith)));
        rest = λ i a b. let back : 1 + (i - 1) ≡ i = omega arith in
            ap (byte_at field) (sym back) ∙ field-byte (i - 1) (omega arith)
            ∙ eqb-true _ 0 (sym (rule-past (i - 1) (omega arith) (omega arith)) ∙ at (i - 1) (omega arith));
      }

  module _ (long : length w ≡ 33) (k : NameKept field) where
    named : (i : ℕ) → i < n → NameByte (byte_at w i)
    named i h =
        let full : length field ≡ 31 = ap suc (length-take 30 w) ∙ omega arith in
        rw (name-byte-at field i h ∙ field-byte i (omega arith)) at (k.alphabet i (omega (arith, name-length field full k)))

    past : (i : ℕ) → n ≤ i → i < 30 → byte_at w i ≡ 0
    past i a b = sym (field-byte i b) ∙ k.rest (1 + i) (omega arith) (omega arith)

    lettered : everywhere rule 32 0 ≡ true
    lettered =
        everywhere-holds rule 32 0
        (λ i a b. ⊎_elim (λ l. rule-in i l ∙ byte-holds (byte_at w i) (named i l))
        (λ l. ⊎_elim (λ m. rule-past i l m ∙ eq-eqb _ 0 (past i l m)) (λ m. rule-behind i m) (below_or i 30)) (below_or i n))

  pub name-window : length w ≡ 33 → everywhere rule 32 0 ≡ name_rule field
  name-window long = same_truth _ _ (λ e. name-holds field (kept e)) (λ e. lettered long (name-means field e))

-- the field that begins at k of s, whose window begins at the next byte
pub field-window : (s : List ℕ) (k : ℕ) → k < length s → byte_at s k ∷ take 30 (part s (k + 1) 33) ≡ part s k 31
field-window s k h = rw (take-take 30 33 (drop (k + 1) s) (omega arith), drop-cons s k 0 h, add-one)
