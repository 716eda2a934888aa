-- The first eight bytes of a row as one number, and the row written from it. Assumes nothing.
use Prim.Native.Nat.{ℕ, zero, suc, ◌+◌, ◌-◌, ◌*◌, ◌/◌, ◌%◌, ◌≤◌, ◌<◌}
use mathlib.Core.Path.{◌≡◌, refl, sym, ap, subst, ◌∙◌}
use mathlib.Core.List.{List, [], ◌∷◌, ◌++◌}
use native.Mathlib.Nat.{mod-eq_of_lt, le_trans, le_of_eq}
use native.Mathlib.Omega.{arith}
use lib.ListN.{length, take, drop, get_or}
use lib.Seq.{take-append_seam, drop-append_seam, length-take-le, get_or-drop}
use Rattle.fields.specs.Bytes.{AreBytes, number2, number4, number8}
use Rattle.sets.proofs.EachWord.{each}
use Rattle.buffers.specs.Pasting.{pasted}
use Rattle.buffers.proofs.Pasted.{pasted_length, pasted-over}
use Rattle.buffers.proofs.Stored.{Begun, part-put}
use Rattle.rows.specs.Words.{word_bytes}

-- parts of bytes are bytes
take-bytes : (n : ℕ) (s : List ℕ) → AreBytes s → AreBytes (take n s)
take-bytes zero s bytes k = omega arith
take-bytes (suc n) [] bytes k = omega arith
take-bytes (suc n) (x ∷ s) bytes zero = bytes 0
take-bytes (suc n) (x ∷ s) bytes (suc k) = take-bytes n s (λ j. bytes (suc j)) k

-- what is cut in two stays bytes
pub front-bytes : (rest row later : List ℕ) → rest ≡ row ++ later → AreBytes rest → AreBytes row
front-bytes rest row later e b =
    subst (λ (s : List ℕ). AreBytes s) (take-append_seam row later) (take-bytes (length row) (row ++ later) (subst (λ (s : List ℕ). AreBytes s) e b))

pub back-bytes : (rest row later : List ℕ) → rest ≡ row ++ later → AreBytes rest → AreBytes later
back-bytes rest row later e b =
    let whole = subst (λ (s : List ℕ). AreBytes s) e b in
    subst (λ (s : List ℕ). AreBytes s) (drop-append_seam row later) (λ k. rw get_or-drop (whole (length row + k)))

-- the first n bytes, one by one
first-each : (n : ℕ) (s : List ℕ) → n ≤ length s → take n s ≡ each (λ k. get_or s k 0) n
first-each zero s h = refl
first-each (suc n) [] h = absurd (omega arith)
first-each (suc n) (x ∷ s) h = ap (λ (t : List ℕ). x ∷ t) (first-each n s (omega arith))

lowest : (x y : ℕ) → x < 256 → (x + 256 * y) % 256 ≡ x
lowest x y h = omega arith

-- the eight digits of a number to the base 256
digits : (a b c d e f g h : ℕ) → a < 256 → b < 256 → c < 256 → d < 256 → e < 256 → f < 256 → g < 256 → h < 256
    → word_bytes (a + 256 * b + 65536 * (c + 256 * d) + 4294967296 * (e + 256 * f + 65536 * (g + 256 * h)))
    ≡ a ∷ b ∷ c ∷ d ∷ e ∷ f ∷ g ∷ h ∷ []
digits a b c d e f g h la lb lc ld le lf lg lh =
    let w : ℕ = a + 256 * b + 65536 * (c + 256 * d) + 4294967296 * (e + 256 * f + 65536 * (g + 256 * h)) in
    let q0 : w ≡ a + 256 * (b + 256 * (c + 256 * (d + 256 * (e + 256 * (f + 256 * (g + 256 * h)))))) = omega arith in
    let p0 : w % 256 ≡ a = rw q0 (lowest a _ la) in
    let q1 : w / 256 ≡ b + 256 * (c + 256 * (d + 256 * (e + 256 * (f + 256 * (g + 256 * h))))) = omega arith in
    let p1 : w / 256 % 256 ≡ b = rw q1 (lowest b _ lb) in
    let q2 : w / 65536 ≡ c + 256 * (d + 256 * (e + 256 * (f + 256 * (g + 256 * h)))) = omega arith in
    let p2 : w / 65536 % 256 ≡ c = rw q2 (lowest c _ lc) in
    let q3 : w / 16777216 ≡ d + 256 * (e + 256 * (f + 256 * (g + 256 * h))) = omega arith in
    let p3 : w / 16777216 % 256 ≡ d = rw q3 (lowest d _ ld) in
    let q4 : w / 4294967296 ≡ e + 256 * (f + 256 * (g + 256 * h)) = omega arith in
    let p4 : w / 4294967296 % 256 ≡ e = rw q4 (lowest e _ le) in
    let q5 : w / 1099511627776 ≡ f + 256 * (g + 256 * h) = omega arith in
    let p5 : w / 1099511627776 % 256 ≡ f = rw q5 (lowest f _ lf) in
    let q6 : w / 281474976710656 ≡ g + 256 * h = omega arith in
    let p6 : w / 281474976710656 % 256 ≡ g = rw q6 (lowest g _ lg) in
    let q7 : w / 72057594037927936 ≡ h = omega arith in
    let p7 : w / 72057594037927936 % 256 ≡ h = rw q7 (mod-eq_of_lt lh) in
    rw (p0, p1, p2, p3, p4, p5, p6, p7)

module _ (s : List ℕ) (bytes : AreBytes s) where
  -- the tag is the lower half of the number
  tag-low : number8 s 0 % 4294967296 ≡ number4 s 0
  unfolding number8 number4 number2
  tag-low = omega (arith, bytes 0, bytes 1, bytes 2, bytes 3)

  pub tag_read : (first : ℕ) → first ≡ number8 s 0 → first % 4294967296 ≡ number4 s 0
  tag_read first e = ap (λ (n : ℕ). n % 4294967296) e ∙ tag-low

  -- the number's eight bytes are those that it was read from
  pub word-bytes : 8 ≤ length s → word_bytes (number8 s 0) ≡ take 8 s
  unfolding number8 number4 number2
  word-bytes long = digits _ _ _ _ _ _ _ _ (bytes 0) (bytes 1) (bytes 2) (bytes 3) (bytes 4) (bytes 5) (bytes 6) (bytes 7) ∙ sym (first-each 8 s long)

-- ---- a row of eight bytes or more, of which the number is written first
begun-word : (b₀ : List ℕ) (at : ℕ) (text : List ℕ) → at + length text ≤ length b₀ → 8 ≤ length text → AreBytes text
    → (first : ℕ) → first ≡ number8 text 0 → (word after : List ℕ) → word ≡ word_bytes first
    → after ≡ take at b₀ ++ (word ++ drop (at + 8 - at) (drop at b₀)) → Begun b₀ at text after 8
begun-word b₀ at text room long bytes first is word after e left =
    let same : word ≡ take 8 text = e ∙ ap word_bytes is ∙ word-bytes text bytes long in
    let written : after ≡ pasted b₀ at (take 8 text) = left ∙ part-put text 0 8 long b₀ at word same in
    let l : length (take 8 text) ≡ 8 = length-take-le 8 text long in
    record { long = ap length written ∙ pasted_length b₀ at (take 8 text) (omega arith); bytes = written }

pub first-stands : {b₀ : List ℕ} {at : ℕ} {text : List ℕ} {first : ℕ} {word : List ℕ} → (8 ≤ length text) × (at + length text ≤ length b₀) → AreBytes text
    → first ≡ number8 text 0 → word ≡ word_bytes first → Begun b₀ at text (take at b₀ ++ (word ++ drop (at + 8 - at) (drop at b₀))) 8
first-stands inside bytes is e = begun-word _ _ _ inside.1 inside.0 bytes _ is _ _ e refl

-- the bytes stand up to a place from `last` to `end`: a part from the one to the other is all that is missing
pub record Nearly (b₀ : List ℕ) (at : ℕ) (text b : List ℕ) (last end : ℕ) : Type 0 where
  pub upto : ℕ
  pub low : last ≤ upto
  pub high : upto ≤ end
  pub begun : Begun b₀ at text b upto

-- what is begun leaves the room for the rest
pub begun-room : {b₀ : List ℕ} {at : ℕ} {text b : List ℕ} {n : ℕ} → Begun b₀ at text b n → at + length text ≤ length b₀ → at + length text ≤ length b
begun-room begun room = le_trans room (le_of_eq (sym begun.long))

-- ---- the buffer in which the first n bytes stand, taken for the one that the row is written over
module _ (b₀ : List ℕ) (at : ℕ) (text : List ℕ) (room : at + length text ≤ length b₀) (b : List ℕ) (n : ℕ) (inside : n ≤ length text)
    (begun : Begun b₀ at text b n) where
  first-over : (y : List ℕ) → n ≤ length y → pasted b at y ≡ pasted b₀ at y
  first-over y h =
      let l : length (take n text) ≡ n = length-take-le n text inside in
      ap (λ (t : List ℕ). pasted t at y) begun.bytes ∙ pasted-over b₀ at (take n text) (omega arith) y (omega arith)

  -- they stand in it
  pub begun-again : Begun b at text b n
  begun-again =
      let l : length (take n text) ≡ n = length-take-le n text inside in
      record { long = refl; bytes = begun.bytes ∙ sym (first-over (take n text) (omega arith)) }

  -- and the whole row is the same in it
  pub begun-whole : (after : List ℕ) → after ≡ pasted b at text → after ≡ pasted b₀ at text
  begun-whole after e = e ∙ first-over text inside
