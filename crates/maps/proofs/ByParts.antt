-- Bytes that are written, or compared, one part after the other. Assumes nothing.
use Prim.Native.Nat.{ℕ, zero, suc, ◌+◌, ◌-◌, ◌≤◌}
use mathlib.Core.Path.{◌≡◌, refl, sym, ap, ap₂, ◌∙◌}
use mathlib.Core.Bool.{Bool, true, false, ◌&&◌}
use mathlib.Core.List.{List, [], ◌∷◌, ◌++◌, append_assoc, append-nil}
use native.Mathlib.Nat.{add-zero, zero-add, suc-add}
use native.Mathlib.Omega.{arith}
use lib.Dec.{eqb}
use lib.ListN.{length, take, drop, length-drop, drop_of_length-le}
use lib.Seq.{drop-drop}
use Rattle.fields.specs.Names.{same_bytes}
use Rattle.fields.specs.Scan.{list_from}
use Rattle.fields.proofs.Scan.{list_length, list-end}
use Rattle.buffers.specs.Pasting.{pasted, Written}
use Rattle.buffers.proofs.Pasted.{front}

-- ---- a list made of what f gives at places in order, in two parts
module _ (f : ℕ → ℕ) where
  list-parts : (n m k : ℕ) → list_from f (n + m) k ≡ list_from f n k ++ list_from f m (k + n)
  unfolding list_from
  list-parts zero m k = rw (zero-add, add-zero)
  list-parts (suc n) m k =
      let next : suc k + n ≡ k + suc n = omega arith in
      rw suc-add (ap (λ (l : List ℕ). f k ∷ l) (list-parts n m (suc k) ∙ ap (λ (p : ℕ). list_from f n (suc k) ++ list_from f m p) next))

  pub list-cut : (count at end : ℕ) → at ≤ end → end ≤ count → list_from f (count - at) at ≡ list_from f (end - at) at ++ list_from f (count - end) end
  list-cut count at end low high =
      let both : count - at ≡ end - at + (count - end) = omega arith in
      let next : at + (end - at) ≡ end = omega arith in
      ap (λ (n : ℕ). list_from f n at) both ∙ list-parts (end - at) (count - end) at
      ∙ ap (λ (p : ℕ). list_from f (end - at) at ++ list_from f (count - end) p) next

-- ---- a text that is as long as the buffer
pub pasted-whole : (b text : List ℕ) → length text ≡ length b → pasted b 0 text ≡ text
pasted-whole b text long =
    let past : length b ≤ length text = omega arith in
    front b text ∙ ap (λ (l : List ℕ). text ++ l) (drop_of_length-le b past) ∙ append-nil text

-- ---- what the code leaves that writes a text to the bytes from `at` up to `end`
pub part-written : (b text ys : List ℕ) (at end : ℕ) → at ≤ end → length text ≡ end - at → ys ≡ text
    → Written b at text (take at b ++ (ys ++ drop (end - at) (drop at b))) end
unfolding pasted
part-written b text ys at end low long is =
    record {
      bytes =
          ap₂ (λ (t : List ℕ) (n : ℕ). take at b ++ (t ++ drop n (drop at b))) is (sym long)
          ∙ ap (λ (l : List ℕ). take at b ++ (text ++ l)) (drop-drop (length text) at b)
          ∙ sym (append_assoc (take at b) text (drop (at + length text) b));
      stop = omega arith;
    }

-- ---- bytes against a text of two parts
pub same_parts : (s x y : List ℕ) → length x ≤ length s → same_bytes s (x ++ y) ≡ (same_bytes (take (length x) s) x && same_bytes (drop (length x) s) y)
unfolding same_bytes
same_parts s [] y h = refl
same_parts [] (b ∷ x) y h = absurd (omega arith)
same_parts (a ∷ s) (b ∷ x) y h = at (eqb a b) (same_parts s x y (omega arith))
  where
    at : (t : Bool) → same_bytes s (x ++ y) ≡ (same_bytes (take (length x) s) x && same_bytes (drop (length x) s) y)
        → (t && same_bytes s (x ++ y)) ≡ ((t && same_bytes (take (length x) s) x) && same_bytes (drop (length x) s) y)
    at true ih = ih
    at false ih = refl

-- a loop that compares the bytes s with those that f gives, as many, where w is what the whole gives: what is left gives w
module _ (f : ℕ → ℕ) (s : List ℕ) (count : ℕ) (long : length s ≡ count) (at : ℕ) (w : Bool) where
  module _ (end : ℕ) (low : at ≤ end) (high : end ≤ count) (inv : same_bytes (drop at s) (list_from f (count - at) at) ≡ w) where
    abbrev pub part : List ℕ
    part = list_from f (end - at) at

    cut : (same_bytes (take (end - at) (drop at s)) part && same_bytes (drop end s) (list_from f (count - end) end)) ≡ w
    cut =
        let n : length part ≡ end - at = list_length f (end - at) at in
        let next : at + (end - at) ≡ end = omega arith in
        let fits : length part ≤ length (drop at s) = rw (length-drop, n) (omega arith) in
        let whole = same_parts (drop at s) part (list_from f (count - end) end) fits in
        let moved : drop (end - at) (drop at s) ≡ drop end s = drop-drop (end - at) at s ∙ ap (λ (k : ℕ). drop k s) next in
        sym (rw (n, moved) at whole) ∙ ap (same_bytes (drop at s)) (sym (list-cut f count at end low high)) ∙ inv

    -- a part that differs
    pub compare-stop : same_bytes (take (end - at) (drop at s)) part ≡ false → false ≡ w
    compare-stop e = rw e at cut

    -- a part that is the same
    pub compare-step : same_bytes (take (end - at) (drop at s)) part ≡ true → same_bytes (drop end s) (list_from f (count - end) end) ≡ w
    compare-step e = rw e at cut

  pub compare-end : count ≤ at → same_bytes (drop at s) (list_from f (count - at) at) ≡ w → true ≡ w
  unfolding same_bytes
  compare-end h inv =
      let past : length s ≤ at = rw long h in
      rw (list-end f count at h, drop_of_length-le s past) at inv
