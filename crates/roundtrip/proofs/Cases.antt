-- Texts that have the shape and texts that have not, judged by the definition in both editions; A is 65, a comma 44, a colon 58. Assumes nothing.
use Prim.Native.Nat.{ℕ}
use mathlib.Core.Path.{◌≡◌, refl}
use mathlib.Core.Bool.{Bool, true, false}
use mathlib.Core.List.{List, [], ◌∷◌}
use Rattle.fields.specs.Bytes.{all}
use Rattle.fields.specs.Names.{name_byte, small_letter}
use Rattle.header.specs.declared.edition.Edition.{Edition}
use Rattle.header.specs.declared.edition.Edition.TheVariants.{One, Two}
use Rattle.header.specs.Limits.{limits_in}
use Rattle.labels.specs.Text.{text_byte, split, is_name, is_list, shape_rule}

abbrev judged : Edition → List (List ℕ) → List Bool
judged edition [] = []
judged edition (text ∷ rest) = shape_rule (limits_in edition).text text ∷ judged edition rest

-- A, A:B, A:B,C, A:B:C, A::C, A:B,C:D,E, a, z:_9
pub well-shaped : (edition : Edition) → judged edition (
    (65 ∷ []) ∷ (65 ∷ 58 ∷ 66 ∷ []) ∷ (65 ∷ 58 ∷ 66 ∷ 44 ∷ 67 ∷ []) ∷ (65 ∷ 58 ∷ 66 ∷ 58 ∷ 67 ∷ []) ∷ (65 ∷ 58 ∷ 58 ∷ 67 ∷ [])
    ∷ (65 ∷ 58 ∷ 66 ∷ 44 ∷ 67 ∷ 58 ∷ 68 ∷ 44 ∷ 69 ∷ []) ∷ (97 ∷ []) ∷ (122 ∷ 58 ∷ 95 ∷ 57 ∷ []) ∷ []
    ) ≡ true ∷ true ∷ true ∷ true ∷ true ∷ true ∷ true ∷ true ∷ []
unfolding shape_rule split is_name is_list all text_byte name_byte small_letter
well-shaped One = refl
well-shaped Two = refl

-- the empty text, A:, A:: (P16), A:B:, :B, A,B, A:B,, A:,B, A::B:C, A B, and the bytes before and after the letters: @, [, ` and {
pub ill-shaped : (edition : Edition) → judged edition (
    [] ∷ (65 ∷ 58 ∷ []) ∷ (65 ∷ 58 ∷ 58 ∷ []) ∷ (65 ∷ 58 ∷ 66 ∷ 58 ∷ []) ∷ (58 ∷ 66 ∷ []) ∷ (65 ∷ 44 ∷ 66 ∷ [])
    ∷ (65 ∷ 58 ∷ 66 ∷ 44 ∷ []) ∷ (65 ∷ 58 ∷ 44 ∷ 66 ∷ []) ∷ (65 ∷ 58 ∷ 58 ∷ 66 ∷ 58 ∷ 67 ∷ []) ∷ (65 ∷ 32 ∷ 66 ∷ [])
    ∷ (64 ∷ []) ∷ (91 ∷ []) ∷ (96 ∷ []) ∷ (123 ∷ []) ∷ []
    ) ≡ false ∷ false ∷ false ∷ false ∷ false ∷ false ∷ false ∷ false ∷ false ∷ false ∷ false ∷ false ∷ false ∷ false ∷ []
unfolding shape_rule split is_name is_list all text_byte name_byte small_letter
ill-shaped One = refl
ill-shaped Two = refl
