-- The alphabet of label text holds that of names. Assumes nothing.
use Prim.Native.Nat.{ℕ}
use mathlib.Core.Path.{◌≡◌, refl}
use mathlib.Core.Bool.{true}
use mathlib.Core.List.{List, [], ◌∷◌}
use Rattle.fields.specs.Bytes.{all}
use Rattle.fields.specs.Names.{name_byte, all_name_bytes, small_letter}
use Rattle.fields.proofs.Both.{both, both_left, both_right, or_left}
use Rattle.labels.specs.Text.{text_byte, all_text_bytes}

name-byte-in-text : (x : ℕ) → name_byte x ≡ true → text_byte x ≡ true
unfolding text_byte
name-byte-in-text x e = or_left (name_byte x) (small_letter x) e

-- so a component's name may stand in a text
pub name-bytes-in-text : (name : List ℕ) → all_name_bytes name ≡ true → all_text_bytes name ≡ true
unfolding all
name-bytes-in-text [] e = refl
name-bytes-in-text (x ∷ xs) e =
    both (text_byte x) (all_text_bytes xs) (name-byte-in-text x (both_left (name_byte x) (all_name_bytes xs) e))
    (name-bytes-in-text xs (both_right (name_byte x) (all_name_bytes xs) e))
