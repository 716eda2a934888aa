-- Bytes stored one after the other, and a text written in parts that may overlap. Assumes nothing.
use Prim.Native.Nat.{ℕ, zero, suc, ◌+◌, ◌-◌, ◌≤◌, ◌<◌}
use mathlib.Core.Path.{◌≡◌, refl, sym, ap, ap₂, ◌∙◌}
use mathlib.Core.List.{List, ◌++◌, append_assoc, append-nil}
use native.Mathlib.Nat.{le_of_eq, add-sub_cancel_left}
use native.Mathlib.Omega.{arith}
use lib.ListN.{length, take, drop, get_or, set, length-set, length-drop, drop_of_length-le}
use lib.Seq.{take_all, take-suc, drop-cons, append_snoc, set_at, length-take-le, take-add, drop-drop}
use Rattle.buffers.specs.Pasting.{pasted}
use Rattle.buffers.proofs.Pasted.{pasted-none, pasted_length, pasted-over, pasted-after}

-- ---- the first n bytes of one list stored over those of another, one by one
abbrev pub stored : List ℕ → List ℕ → ℕ → List ℕ
stored from to zero = to
stored from to (suc n) = set (stored from to n) n (get_or from n 0)

module _ (from to : List ℕ) where
  stored-front : (n : ℕ) → n ≤ length from → n ≤ length to → stored from to n ≡ take n from ++ drop n to
  stored-front zero h g = refl
  stored-front (suc n) h g =
      let byte : ℕ = get_or from n 0 in
      let rest : List ℕ = drop (suc n) to in
      let first : length (take n from) ≡ n = length-take-le n from (omega arith) in
      ap (λ (l : List ℕ). set l n byte) (stored-front n (omega arith) (omega arith))
      ∙ ap (λ (l : List ℕ). set (take n from ++ l) n byte) (drop-cons to n 0 (omega arith))
      ∙ set_at (take n from) (get_or to n 0) rest byte n first
      ∙ sym (append_snoc (take n from) byte rest)
      ∙ ap (λ (l : List ℕ). l ++ rest) (sym (take-suc from n 0 (omega arith)))

  -- the length stays, so that the next place is inside
  pub stored-long : (n : ℕ) → length (stored from to n) ≡ length to
  stored-long zero = refl
  stored-long (suc n) = length-set (stored from to n) n (get_or from n 0) ∙ stored-long n

  pub stored-room : (k n : ℕ) → length to ≡ n → k < n → k < length (stored from to k)
  stored-room k n e h = rw (stored-long k, e) h

  -- all of them, where the two are as long
  pub stored-whole : (n : ℕ) → length from ≡ n → length to ≡ n → stored from to n ≡ from
  stored-whole n e d =
      stored-front n (le_of_eq (sym e)) (le_of_eq (sym d))
      ∙ ap₂ (λ (s t : List ℕ). s ++ t) (take_all n from (le_of_eq e)) (drop_of_length-le to (le_of_eq d))
      ∙ append-nil from

-- ---- a text written in parts
module _ (text : List ℕ) (i m : ℕ) (inside : i + m ≤ length text) where
  pub part-long : length (take m (drop i text)) ≡ m
  part-long = length-take-le m (drop i text) (rw length-drop (omega arith))

  -- what the code leaves that copies m bytes of the text from i on
  pub part-put : (b : List ℕ) (to : ℕ) (ys : List ℕ) → ys ≡ take (i + m - i) (drop i text)
      → take to b ++ (ys ++ drop (to + m - to) (drop to b)) ≡ pasted b to (take m (drop i text))
  unfolding pasted
  part-put b to ys e =
      let part : List ℕ = take m (drop i text) in
      let same : ys ≡ part = e ∙ rw add-sub_cancel_left in
      let later : drop (to + m - to) (drop to b) ≡ drop (to + length part) b =
      ap (λ (k : ℕ). drop k (drop to b)) (add-sub_cancel_left to m) ∙ drop-drop m to b ∙ ap (λ (k : ℕ). drop (to + k) b) (sym part-long) in
      ap₂ (λ (s t : List ℕ). take to b ++ (s ++ t)) same later ∙ sym (append_assoc (take to b) part (drop (to + length part) b))

  -- this part and the n bytes after it are one part
  pub part_then : (b : List ℕ) (at n : ℕ) → at + length text ≤ length b
      → pasted (pasted b (at + i) (take m (drop i text))) (at + (i + m)) (take n (drop (i + m) text))
      ≡ pasted b (at + i) (take (m + n) (drop i text))
  part_then b at n room =
      let part : List ℕ = take m (drop i text) in
      let next : List ℕ = take n (drop (i + m) text) in
      let wide : length part ≡ m = part-long in
      let then : at + (i + m) ≡ at + i + length part = omega arith in
      let both : take (m + n) (drop i text) ≡ part ++ next = take-add m n (drop i text) ∙ ap (λ (t : List ℕ). part ++ take n t) (drop-drop m i text) in
      ap (λ (k : ℕ). pasted (pasted b (at + i) part) k next) then
      ∙ pasted-after b (at + i) part (omega arith) next
      ∙ ap (pasted b (at + i)) (sym both)

  -- where the first n bytes stand already, and the part begins among them or just after them, all up to its end stand
  pub part-over : (b : List ℕ) (at n : ℕ) → at + length text ≤ length b → i ≤ n → n ≤ i + m
      → pasted (pasted b at (take n text)) (at + i) (take m (drop i text)) ≡ pasted b at (take (i + m) text)
  part-over b at n room low high =
      let first : List ℕ = take i text in
      let before : List ℕ = take (n - i) (drop i text) in
      let part : List ℕ = take m (drop i text) in
      let l : length first ≡ i = length-take-le i text (omega arith) in
      let k : length before ≡ n - i = length-take-le (n - i) (drop i text) (rw length-drop (omega arith)) in
      let fits : at + length first ≤ length b = omega arith in
      let wide = part-long in
      let long = pasted_length b at first fits in
      let sum : i + (n - i) ≡ n = omega arith in
      let then : at + length first ≡ at + i = ap (λ (x : ℕ). at + x) l in
      ap (λ (t : List ℕ). pasted (pasted b at t) (at + i) part) (ap (λ (x : ℕ). take x text) (sym sum) ∙ take-add i (n - i) text)
      ∙ ap (λ (t : List ℕ). pasted t (at + i) part) (sym (pasted-after b at first fits before))
      ∙ ap (λ (x : ℕ). pasted (pasted (pasted b at first) (at + length first) before) x part) (sym then)
      ∙ pasted-over (pasted b at first) (at + length first) before (omega arith) part (omega arith)
      ∙ pasted-after b at first fits part
      ∙ ap (pasted b at) (sym (take-add i m text))

-- the first n bytes of the text stand
pub record Begun (b₀ : List ℕ) (at : ℕ) (text b : List ℕ) (n : ℕ) : Type 0 where
  pub long : length b ≡ length b₀
  pub bytes : b ≡ pasted b₀ at (take n text)

module _ (b₀ : List ℕ) (at : ℕ) (text : List ℕ) (room : at + length text ≤ length b₀) where
  pub begun-start : Begun b₀ at text b₀ 0
  begun-start = record { long = refl; bytes = sym (pasted-none b₀ at) }

  -- the next part
  pub begun-turn : (b : List ℕ) (n : ℕ) → Begun b₀ at text b n → (i m : ℕ) → i + m ≤ length text → i ≤ n → n ≤ i + m
      → (after : List ℕ) → after ≡ pasted b (at + i) (take m (drop i text)) → Begun b₀ at text after (i + m)
  begun-turn b n begun i m inside low high after e =
      let bytes : after ≡ pasted b₀ at (take (i + m) text) =
      e ∙ ap (λ (s : List ℕ). pasted s (at + i) (take m (drop i text))) begun.bytes ∙ part-over text i m inside b₀ at n room low high in
      let l : length (take (i + m) text) ≡ i + m = length-take-le (i + m) text inside in
      record { long = ap length bytes ∙ pasted_length b₀ at (take (i + m) text) (omega arith); bytes = bytes }

  -- the last
  pub begun-end : (b : List ℕ) (n : ℕ) → Begun b₀ at text b n → length text ≤ n → b ≡ pasted b₀ at text
  begun-end b n begun all = begun.bytes ∙ ap (pasted b₀ at) (take_all n text all)
