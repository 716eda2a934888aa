-- The line of a refusal, written part after part. Assumes nothing.
use Prim.Native.Nat.{ℕ, ◌+◌, ◌^◌, ◌≤◌, ◌<◌}
use mathlib.Core.Path.{◌≡◌, ap, subst}
use mathlib.Core.List.{List, [], ◌∷◌, ◌++◌}
use native.Mathlib.Omega.{arith}
use lib.Dec.{lit≤}
use lib.ListN.{length, set, length-append}
use Rattle.buffers.specs.Pasting.{Written}
use Rattle.buffers.proofs.Left.{byte-alone, written_none, written-long, written_then}
use Rattle.refusals.specs.declared.Refusal.{Refusal}
use Rattle.refusals.specs.Refusals.{number_of, values_of}
use Rattle.refusals.proofs.Laws.{number-to}
use Rattle.lines.specs.Lines.{decimal, refused_text, block_text, record_text, place_text, refused_line}
use Rattle.lines.specs.Parts.{Told}
use Rattle.lines.proofs.Joined.{decimal-short}

-- a number below 2 ^ 64 has at most 20 digits, and one below 2 ^ 16 at most 5
pub word-short : (n : ℕ) → n < 2 ^ 64 → length (decimal n) ≤ 20
word-short n h = decimal-short n 20 (lit≤ tt) (omega arith)

pub half-short : (n : ℕ) → n < 2 ^ 16 → length (decimal n) ≤ 5
half-short n h = decimal-short n 5 (lit≤ tt) (omega arith)

-- ---- a word and a number
module _ (word : List ℕ) (n : ℕ) (b : List ℕ) (e : ℕ) (room : e + length (word ++ decimal n) ≤ length b) where
  pub room_word : e + length word ≤ length b
  room_word = omega (arith, room, length-append word (decimal n))

  module _ {mid : List ℕ} {q : ℕ} (v : Written b e word mid q) where
    pub room-number : q + length (decimal n) ≤ length mid
    room-number =
        let long = written-long room_word v in
        omega (arith, room, length-append word (decimal n), v.stop)

    pub written-named : {after : List ℕ} {r : ℕ} → Written mid q (decimal n) after r → Written b e (word ++ decimal n) after r
    written-named w = written_then room_word v w

-- nothing is told where there is no value
pub told_none : (r : Refusal) (b : List ℕ) (e : ℕ) → values_of r ≡ [] → Told b e (place_text (number_of r) (values_of r)) b e
told_none r b e none =
    record { written = written_none b e (place_text (number_of r) (values_of r)) (ap (place_text (number_of r)) none); short = omega arith }

-- of one word and one value
pub named-short : (word : List ℕ) (n : ℕ) → length word ≤ 11 → n < 2 ^ 64 → length (word ++ decimal n) ≤ 31
named-short word n h fits = omega (arith, h, length-append word (decimal n), word-short n fits)

pub named-told : (word : List ℕ) (n : ℕ) → length word ≤ 11 → n < 2 ^ 64 → {b after : List ℕ} {e r : ℕ}
    → Written b e (word ++ decimal n) after r → Told b e (word ++ decimal n) after r
named-told word n h fits w = record { written = w; short = omega (arith, named-short word n h fits, w.stop) }

-- ---- a record's block and its place there
module _ (block slot : ℕ) (first : block < 2 ^ 16) (second : slot < 2 ^ 16) (b : List ℕ) (e : ℕ) (room : e + 31 ≤ length b) where
  block-short : length (block_text ++ decimal block) ≤ 15
  block-short = omega (arith, length-append block_text (decimal block), half-short block first)

  slot-short : length (record_text ++ decimal slot) ≤ 13
  slot-short = omega (arith, length-append record_text (decimal slot), half-short slot second)

  pub room-block : e + length (block_text ++ decimal block) ≤ length b
  room-block = omega (arith, block-short)

  module _ {mid : List ℕ} {q : ℕ} (v : Written b e (block_text ++ decimal block) mid q) where
    pub room-slot : q + length (record_text ++ decimal slot) ≤ length mid
    room-slot =
        let long = written-long room-block v in
        omega (arith, slot-short, block-short, v.stop)

    pub record-told : {after : List ℕ} {r : ℕ} → Written mid q (record_text ++ decimal slot) after r
        → Told b e (block_text ++ decimal block ++ (record_text ++ decimal slot)) after r
    record-told w =
        record {
          written = written_then room-block v w;
          short = omega (arith, slot-short, block-short, v.stop, w.stop);
        }

-- ---- the line
module _ (r : Refusal) (b : List ℕ) (room : 64 ≤ length b) {n : ℕ} (number : n ≡ number_of r) where
  front-short : length (refused_text ++ decimal n) ≤ 10
  front-short =
      omega (arith, length-append refused_text (decimal n), decimal-short n 2 (lit≤ tt) (omega (arith, number, number-to r)))

  pub room-front : 0 + length (refused_text ++ decimal n) ≤ length b
  room-front = omega (arith, front-short)

  module _ {mid : List ℕ} {q : ℕ} (v : Written b 0 (refused_text ++ decimal n) mid q) where
    long : length mid ≡ length b
    long = written-long room-front v

    pub room-place : q + 31 ≤ length mid
    room-place = omega (arith, long, front-short, v.stop)

    module _ {after : List ℕ} {t : ℕ} (x : Told mid q (place_text (number_of r) (values_of r)) after t) where
      placed : Written b 0 (refused_text ++ decimal n ++ place_text (number_of r) (values_of r)) after t
      placed = written_then room-front v x.written

      end_short : t ≤ 41
      end_short = omega (arith, x.short, v.stop, front-short)

      room-placed : 0 + length (refused_text ++ decimal n ++ place_text (number_of r) (values_of r)) ≤ length b
      room-placed = omega (arith, end_short, placed.stop)

      pub room-newline : t < length after
      room-newline =
          let whole = written-long room-placed placed in
          omega (arith, end_short)

      pub written-refused : Written b 0 (refused_line r) (set after t 10) (t + 1) × (t + 1 ≤ 64)
      unfolding refused_line
      written-refused = (
        subst (λ (m : ℕ). Written b 0 (refused_text ++ decimal m ++ place_text (number_of r) (values_of r) ++ (10 ∷ [])) (set after t 10) (t + 1)) number
            (written_then room-placed placed (byte-alone after t 10 room-newline)),
        omega (arith, end_short),
      )
