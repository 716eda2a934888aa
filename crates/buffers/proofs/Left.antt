-- Texts written one after the other. Assumes nothing.
use Prim.Native.Nat.{ℕ, ◌+◌, ◌≤◌, ◌<◌}
use mathlib.Core.Path.{◌≡◌, refl, sym, ap, ap₂, ◌∙◌}
use mathlib.Core.List.{List, [], ◌∷◌, ◌++◌}
use native.Mathlib.Nat.{add-zero}
use native.Mathlib.Omega.{arith}
use lib.ListN.{length, take, set, length-append}
use Rattle.buffers.specs.Pasting.{pasted, Written}
use Rattle.buffers.proofs.Pasted.{pasted-none, pasted_length, pasted-taken, pasted-after, pasted-over, pasted-byte, byte-after}

-- nothing is written
pub written_none : (b : List ℕ) (e : ℕ) (text : List ℕ) → text ≡ [] → Written b e text b e
written_none b e text n =
    record { bytes = sym (ap (pasted b e) n ∙ pasted-none b e); stop = sym (ap (λ (t : List ℕ). e + length t) n ∙ add-zero e) }

-- a byte alone, and a byte and then a text
module _ (b : List ℕ) (e v : ℕ) (inside : e < length b) where
  pub byte-alone : Written b e (v ∷ []) (set b e v) (e + 1)
  byte-alone = record { bytes = sym (pasted-byte b e v inside); stop = refl }

  pub byte-then : {y after : List ℕ} {r : ℕ} → Written (set b e v) (e + 1) y after r → Written b e (v ∷ y) after r
  byte-then {y} w = record { bytes = w.bytes ∙ byte-after b e v y inside; stop = omega (arith, w.stop) }

-- one text after another
module _ {b : List ℕ} {e : ℕ} {x mid : List ℕ} {r : ℕ} (fits : e + length x ≤ length b) (v : Written b e x mid r) where
  pub written-long : length mid ≡ length b
  written-long = ap length v.bytes ∙ pasted_length b e x fits

  -- the bytes up to where the text ends
  pub written-taken : take r mid ≡ take e b ++ x
  written-taken = ap₂ take v.stop v.bytes ∙ pasted-taken b e x fits

  pub written_then : {y after : List ℕ} {q : ℕ} → Written mid r y after q → Written b e (x ++ y) after q
  written_then {y} w =
      record {
        bytes =
            w.bytes ∙ ap₂ (λ (t : List ℕ) (n : ℕ). pasted t n y) v.bytes v.stop ∙ pasted-after b e x fits y;
        stop = omega (arith, w.stop, v.stop, length-append x y);
      }

-- a text over the last bytes of another, as many as it has
pub written_over : {b : List ℕ} {e : ℕ} (x z : List ℕ) {mid : List ℕ} {r : ℕ} → e + length (x ++ z) ≤ length b → Written b e (x ++ z) mid r
    → {y after : List ℕ} {q : ℕ} → length y ≡ length z → Written mid (e + length x) y after q → Written b e (x ++ y) after q
written_over {b} {e} x z {mid} fits v {y} same w =
    let both = length-append x z in
    let inside : e + length x ≤ length b = omega arith in
    let first : List ℕ = pasted b e x in
    let room : e + length x + length z ≤ length first = omega (arith, pasted_length b e x inside) in
    record {
      bytes =
          w.bytes
          ∙ ap (λ (t : List ℕ). pasted t (e + length x) y) (v.bytes ∙ sym (pasted-after b e x inside z))
          ∙ pasted-over first (e + length x) z room y (omega arith) ∙ pasted-after b e x inside y;
      stop = omega (arith, w.stop, length-append x y);
    }

-- ---- a loop that writes: writing what is left gives what writing the whole gives
pub record Left (b₀ : List ℕ) (at : ℕ) (whole b : List ℕ) (end : ℕ) (rest : List ℕ) : Type 0 where
  pub long : length b ≡ length b₀
  pub bytes : pasted b end rest ≡ pasted b₀ at whole
  pub stop : end + length rest ≡ at + length whole

module _ (b₀ : List ℕ) (at : ℕ) (whole : List ℕ) where
  pub left-start : (rest : List ℕ) → rest ≡ whole → Left b₀ at whole b₀ at rest
  left-start rest e = record { long = refl; bytes = ap (pasted b₀ at) e; stop = ap (λ (t : List ℕ). at + length t) e }

  module _ (b : List ℕ) (end : ℕ) (rest : List ℕ) (l : Left b₀ at whole b end rest) where
    pub left_end : rest ≡ [] → Written b₀ at whole b end
    left_end none =
        record {
          bytes = sym (ap (pasted b end) none ∙ pasted-none b end) ∙ l.bytes;
          stop = sym (ap (λ (t : List ℕ). end + length t) none ∙ add-zero end) ∙ l.stop;
        }

    module _ (x y : List ℕ) (e : rest ≡ x ++ y) where
      step-length : length rest ≡ length x + length y
      step-length = ap length e ∙ length-append x y

      pub left-room : at + length whole ≤ length b₀ → end + length x ≤ length b
      left-room room = let s = step-length in omega (arith, l.stop, l.long)

      pub left-turn : (after : List ℕ) (r : ℕ) → at + length whole ≤ length b₀ → Written b end x after r → Left b₀ at whole after r y
      left-turn after r room w =
          let fits = left-room room in
          let s = step-length in
          record {
            long = ap length w.bytes ∙ pasted_length b end x fits ∙ l.long;
            bytes =
                ap₂ (λ (t : List ℕ) (n : ℕ). pasted t n y) w.bytes w.stop ∙ pasted-after b end x fits y
                ∙ ap (pasted b end) (sym e) ∙ l.bytes;
            stop = omega (arith, w.stop, l.stop);
          }
