-- A colon and a list: the colon stands where the list has its first comma. Assumes nothing.
use Prim.Native.Nat.{ℕ, suc, ◌+◌, ◌-◌, ◌≤◌, ◌<◌}
use mathlib.Core.Path.{◌≡◌, sym, ap, ◌∙◌}
use mathlib.Core.List.{List, [], ◌∷◌, ◌++◌}
use native.Mathlib.Omega.{arith}
use lib.ListN.{length, take, drop, set, length-append, length-drop}
use lib.Seq.{length-take-le, set-append_left, set_at}
use Rattle.printing.specs.Print.{listed, list_text, section}
use Rattle.buffers.specs.Pasting.{pasted, Written}
use Rattle.buffers.proofs.Pasted.{pasted-none, pasted-byte}

colon-length : (t : List ℕ) → length (58 ∷ drop 1 t) ≡ suc (length t - 1)
colon-length t = ap suc (length-drop 1 t)

-- the colon, written over the first byte of the list or after nothing
colon-bytes : (b : List ℕ) (e : ℕ) (t : List ℕ) → e < length b → set (pasted b e t) e 58 ≡ pasted b e (58 ∷ drop 1 t)
unfolding pasted
colon-bytes b e [] h = ap (λ (s : List ℕ). set s e 58) (pasted-none b e) ∙ sym (pasted-byte b e 58 h)
colon-bytes b e (x ∷ xs) h =
    let l : length (take e b) ≡ e = length-take-le e b (omega arith) in
    let m : e < length (take e b ++ (x ∷ xs)) = omega (arith, length-append (take e b) (x ∷ xs)) in
    set-append_left (take e b ++ (x ∷ xs)) (drop (e + length (x ∷ xs)) b) e 58 m
    ∙ ap (λ (s : List ℕ). s ++ drop (e + length (x ∷ xs)) b) (set_at (take e b) x xs 58 e l)

module _ (im : List ℕ) (class s count : ℕ) where
  pub section-length : length (section im class count s) ≡ suc (length (listed im class s count 0) - 1)
  unfolding section list_text
  section-length = colon-length (listed im class s count 0)

  pub length_none : (n : ℕ) → n ≡ length (listed im class s count 0) → n ≡ 0 → 1 ≡ length (section im class count s)
  length_none n e z = let l = section-length in omega arith

  pub length_some : (n : ℕ) → n ≡ length (listed im class s count 0) → (n ≡ 0 → ⊥) → n ≡ length (section im class count s)
  length_some n e z = let l = section-length in omega arith

  pub list-room : (e n : ℕ) → e + length (section im class count s) ≤ n → e + length (listed im class s count 0) ≤ n
  list-room e n h = let l = section-length in omega arith

  pub colon-room : (e n : ℕ) → e + length (section im class count s) ≤ n → e < n
  colon-room e n h = let l = section-length in omega arith

  module _ (b : List ℕ) (e : ℕ) (after : List ℕ) (r : ℕ) (room : e + length (section im class count s) ≤ length b)
      (w : Written b e (listed im class s count 0) after r) where
    bytes : set after e 58 ≡ pasted b e (section im class count s)
    unfolding section list_text
    bytes =
        ap (λ (t : List ℕ). set t e 58) w.bytes
        ∙ colon-bytes b e (listed im class s count 0) (colon-room e (length b) room)

    pub colon-alone : r ≡ e → Written b e (section im class count s) (set after e 58) (e + 1)
    colon-alone z = record { bytes = bytes; stop = let l = section-length in omega (arith, w.stop) }

    pub colon-list : (r ≡ e → ⊥) → Written b e (section im class count s) (set after e 58) r
    colon-list z = record { bytes = bytes; stop = let l = section-length in omega (arith, w.stop) }
