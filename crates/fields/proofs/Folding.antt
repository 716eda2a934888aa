-- Laws of letters: what folding a name keeps, and when it changes nothing. Assumes nothing.
use Prim.Native.Nat.{ℕ, zero, suc, ◌-◌, ◌≤◌, ◌<◌}
use mathlib.Core.Path.{◌≡◌, refl, sym, ap, ap₂, ◌∙◌}
use mathlib.Core.Bool.{Bool, true, false, ◌||◌}
use mathlib.Core.List.{List, [], ◌∷◌}
use mathlib.Core.Logic.{inl, inr}
use native.Mathlib.Omega.{arith}
use borrow.Author.Tests.{leb-true, lt-leb, ne_eqb}
use lib.Dec.{eqb, leb}
use lib.ListN.{length, get_or}
use Rattle.fields.specs.Bytes.{all}
use Rattle.fields.specs.Names.{name_byte, all_name_bytes, small_letter, folded, folded_name, in_letters}
use Rattle.fields.specs.declared.names.Letters.{Letters}
use Rattle.fields.specs.declared.names.Letters.TheVariants.{Exact, Folded}
use Rattle.fields.proofs.Both.{parts, or_left, or_right}
use Rattle.fields.proofs.Meaning.{NameByte, byte-means, byte-holds}

pub folded-length : (name : List ℕ) → length (folded_name name) ≡ length name
folded-length [] = refl
folded-length (x ∷ xs) = ap suc (folded-length xs)

pub folded-at : (name : List ℕ) (i : ℕ) → i < length name → get_or (folded_name name) i 0 ≡ folded (get_or name i 0)
folded-at [] i h = absurd (omega arith)
folded-at (x ∷ xs) zero h = refl
folded-at (x ∷ xs) (suc i) h = folded-at xs i (omega arith)

pub in-letters-length : (letters : Letters) (name : List ℕ) → length (in_letters letters name) ≡ length name
in-letters-length Exact name = refl
in-letters-length Folded name = folded-length name

-- ---- a byte
-- of the names' alphabet no byte is a small letter
name-not-small : (x : ℕ) → name_byte x ≡ true → small_letter x ≡ false
unfolding small_letter
name-not-small x e = rw (lt-leb 97 x (low (byte-means x e)))
  where
    low : NameByte x → x < 97
    low (inl (a, b)) = omega arith
    low (inr (inl (a, b))) = omega arith
    low (inr (inr e)) = omega arith

pub folded-name-byte : (x : ℕ) → name_byte x ≡ true → folded x ≡ x
unfolding folded
folded-name-byte x e = rw (name-not-small x e)

-- so a name of that alphabet is folded already
pub folded-name : (name : List ℕ) → all_name_bytes name ≡ true → folded_name name ≡ name
unfolding all
folded-name [] e = refl
folded-name (x ∷ xs) e = let p = parts (name_byte x) (all_name_bytes xs) e in ap₂ (λ (y : ℕ) (ys : List ℕ). y ∷ ys) (folded-name-byte x p.0) (folded-name xs p.1)

-- ---- folding twice
module _ (x : ℕ) where
  small-bounds : small_letter x ≡ true → (97 ≤ x) × (x ≤ 122)
  unfolding small_letter
  small-bounds e = let p = parts (leb 97 x) (leb x 122) e in (leb-true 97 x p.0, leb-true x 122 p.1)

  -- a small letter's capital is of the names' alphabet
  capital-byte : small_letter x ≡ true → name_byte (x - 32) ≡ true
  capital-byte e = let b = small-bounds e in byte-holds (x - 32) (inl (omega arith, omega arith))

  folded-small : small_letter x ≡ true → folded x ≡ x - 32
  unfolding folded
  folded-small e = rw e

  folded-other : small_letter x ≡ false → folded x ≡ x
  unfolding folded
  folded-other e = rw e

  pub folded-twice : folded (folded x) ≡ folded x
  folded-twice = at (small_letter x) refl
    where
      at : (t : Bool) → small_letter x ≡ t → folded (folded x) ≡ folded x
      at true e = ap folded (folded-small e) ∙ folded-name-byte (x - 32) (capital-byte e) ∙ sym (folded-small e)
      at false e = ap folded (folded-other e)

  -- a byte below the capitals is met by itself alone: no other is folded to it
  pub folded-mark : (mark : ℕ) → mark < 65 → eqb (folded x) mark ≡ eqb x mark
  folded-mark mark low = at (small_letter x) refl
    where
      at : (t : Bool) → small_letter x ≡ t → eqb (folded x) mark ≡ eqb x mark
      at true e =
          let b = small-bounds e in
          ap (λ (y : ℕ). eqb y mark) (folded-small e) ∙ ne_eqb (x - 32) mark (λ q. omega (arith, q, b)) ∙ sym (ne_eqb x mark (λ q. omega (arith, q, b)))
      at false e = ap (λ (y : ℕ). eqb y mark) (folded-other e)

  -- text has a letter in either case
  pub folded-text : (name_byte (folded x) || small_letter (folded x)) ≡ (name_byte x || small_letter x)
  folded-text = at (small_letter x) refl
    where
      at : (t : Bool) → small_letter x ≡ t → (name_byte (folded x) || small_letter (folded x)) ≡ (name_byte x || small_letter x)
      at true e =
          or_left (name_byte (folded x)) (small_letter (folded x)) (ap name_byte (folded-small e) ∙ capital-byte e) ∙ sym (or_right (name_byte x) (small_letter x) e)
      at false e = ap (λ (y : ℕ). name_byte y || small_letter y) (folded-other e)

pub folded-name-twice : (name : List ℕ) → folded_name (folded_name name) ≡ folded_name name
folded-name-twice [] = refl
folded-name-twice (x ∷ xs) = ap₂ (λ (y : ℕ) (ys : List ℕ). y ∷ ys) (folded-twice x) (folded-name-twice xs)
