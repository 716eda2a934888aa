-- Text written over a buffer. Assumes nothing.
use Prim.Native.Nat.{ℕ, suc, ◌+◌, ◌-◌, ◌≤◌, ◌<◌}
use mathlib.Core.Path.{◌≡◌, refl, sym, ap, ap₂, ◌∙◌}
use mathlib.Core.List.{List, [], ◌∷◌, ◌++◌, append_assoc, append-nil}
use native.Mathlib.Nat.{zero-add, add-zero, add_assoc, le_of_eq}
use native.Mathlib.Numerals.{add-one}
use native.Mathlib.Omega.{arith}
use lib.ListN.{length, take, drop, set, length-append, length-drop, take-append-drop, drop_of_length-le}
use lib.Seq.{take_all, take-length, length-take-le, drop-drop, take_at, drop_at, set_split, append_snoc}
use lib.Seq.{take-append-le, drop-append-le, take-append-add, drop-append-add}
use Rattle.buffers.specs.Pasting.{pasted}

-- nothing is written
pub pasted-none : (b : List ℕ) (e : ℕ) → pasted b e [] ≡ b
unfolding pasted
pasted-none b e = rw (append-nil, add-zero) (take-append-drop e b)

module _ (b : List ℕ) (e : ℕ) (x : List ℕ) (fits : e + length x ≤ length b) where
  head-length : length (take e b ++ x) ≡ e + length x
  head-length =
      let h : length (take e b) ≡ e = length-take-le e b (omega arith) in
      omega (arith, length-append (take e b) x)

  regroup : pasted b e x ≡ (take e b ++ x) ++ drop (e + length x) b
  unfolding pasted
  regroup = refl

  pub pasted_length : length (pasted b e x) ≡ length b
  pasted_length =
      let h = head-length in
      ap length regroup
      ∙ length-append (take e b ++ x) (drop (e + length x) b)
      ∙ simp length-drop (omega arith)

  pub pasted-taken : take (e + length x) (pasted b e x) ≡ take e b ++ x
  pasted-taken = ap (take (e + length x)) regroup ∙ take_at (take e b ++ x) (drop (e + length x) b) (e + length x) head-length

  dropped : drop (e + length x) (pasted b e x) ≡ drop (e + length x) b
  dropped = ap (drop (e + length x)) regroup ∙ drop_at (take e b ++ x) (drop (e + length x) b) (e + length x) head-length

  rest : (n : ℕ) → drop (e + length x + n) (pasted b e x) ≡ drop (e + length x + n) b
  rest n = sym (drop-drop n (e + length x) (pasted b e x)) ∙ ap (drop n) dropped ∙ drop-drop n (e + length x) b

  -- a text at the same place that is no shorter leaves nothing of it
  pub pasted-over : (y : List ℕ) → length x ≤ length y → pasted (pasted b e x) e y ≡ pasted b e y
  unfolding pasted
  pasted-over y h =
      let first : length (take e b) ≡ e = length-take-le e b (omega arith) in
      let end : e + length x + (length y - length x) ≡ e + length y = omega arith in
      ap₂ (λ (s t : List ℕ). s ++ y ++ t)
      (ap (take e) (append_assoc (take e b) x (drop (e + length x) b)) ∙ take_at (take e b) (x ++ drop (e + length x) b) e first)
      (rw end at (rest (length y - length x)))

  -- one text after another
  pub pasted-after : (y : List ℕ) → pasted (pasted b e x) (e + length x) y ≡ pasted b e (x ++ y)
  unfolding pasted
  pasted-after y =
      ap₂ (λ (s t : List ℕ). s ++ y ++ t) pasted-taken (rest (length y))
      ∙ ap₂ (λ (s : List ℕ) (n : ℕ). s ++ drop n b) (append_assoc (take e b) x y)
      (add_assoc e (length x) (length y) ∙ ap (λ (n : ℕ). e + n) (sym (length-append x y)))

-- one byte
pub pasted-byte : (b : List ℕ) (e v : ℕ) → e < length b → pasted b e (v ∷ []) ≡ set b e v
unfolding pasted
pasted-byte b e v h = rw add-one (append_snoc (take e b) v (drop (suc e) b) ∙ sym (set_split b e v h))

-- a byte, and then a text
pub byte-after : (b : List ℕ) (e v : ℕ) (y : List ℕ) → e < length b → pasted (set b e v) (e + 1) y ≡ pasted b e (v ∷ y)
byte-after b e v y h =
    ap (λ (s : List ℕ). pasted s (e + 1) y) (sym (pasted-byte b e v h)) ∙ pasted-after b e (v ∷ []) (omega arith) y

-- a text copied to the front of what lies from a on
pub put-part : (xs text ys : List ℕ) (a : ℕ) → a + length text ≤ length xs
    → ys ≡ take (length text) text ++ drop (length text) (take (length xs - a) (drop a xs))
    → take a xs ++ (ys ++ drop (length xs - a) (drop a xs)) ≡ pasted xs a text
unfolding pasted
put-part xs text ys a fits e =
    let l : length (drop a xs) ≤ length xs - a = le_of_eq (length-drop a xs) in
    let whole : ys ≡ text ++ drop (a + length text) xs =
    e
    ∙ ap₂ (λ (s t : List ℕ). s ++ drop (length text) t) (take-length text) (take_all (length xs - a) (drop a xs) l)
    ∙ ap (λ (t : List ℕ). text ++ t) (drop-drop (length text) a xs) in
    ap (λ (t : List ℕ). take a xs ++ t)
    (ap₂ (λ (s t : List ℕ). s ++ t) whole (drop_of_length-le (drop a xs) l) ∙ append-nil (text ++ drop (a + length text) xs))
    ∙ sym (append_assoc (take a xs) text (drop (a + length text) xs))

-- what is written to the front leaves the text and then the bytes that follow it
pub front : (b text : List ℕ) → pasted b 0 text ≡ text ++ drop (length text) b
unfolding pasted
front b text = rw zero-add

-- a text written inside the middle one of three
pub pasted-inside : (x middle y : List ℕ) (k : ℕ) (text : List ℕ) → k + length text ≤ length middle
    → pasted (x ++ middle ++ y) (length x + k) text ≡ x ++ pasted middle k text ++ y
unfolding pasted
pasted-inside x middle y k text fits =
    let whole = append_assoc x middle y in
    let a = take k middle in
    let d = drop (k + length text) middle in
    let first : take (length x + k) (x ++ middle ++ y) ≡ x ++ a =
    ap (take (length x + k)) whole ∙ take-append-add x (middle ++ y) k
    ∙ ap (λ (t : List ℕ). x ++ t) (take-append-le k middle y (omega arith)) in
    let last : drop (length x + k + length text) (x ++ middle ++ y) ≡ d ++ y =
    ap₂ drop (add_assoc (length x) k (length text)) whole
    ∙ drop-append-add x (middle ++ y) (k + length text) ∙ drop-append-le (k + length text) middle y fits in
    ap₂ (λ (s t : List ℕ). s ++ text ++ t) first last
    ∙ ap (λ (t : List ℕ). t ++ (d ++ y)) (append_assoc x a text)
    ∙ sym (append_assoc (x ++ (a ++ text)) d y)
    ∙ ap (λ (t : List ℕ). t ++ y) (append_assoc x (a ++ text) d)
