-- Splitting a text at a mark: parts without a mark that are joined by it come back. Assumes nothing.
use Prim.Native.Nat.{ℕ}
use mathlib.Core.Path.{◌≡◌, refl, sym, ap, ◌∙◌}
use mathlib.Core.Bool.{Bool, true, false, not, true≢false}
use mathlib.Core.List.{List, [], ◌∷◌, ◌++◌}
use borrow.Author.Tests.{eqb-true, eq-eqb, not-true}
use lib.Dec.{eqb}
use Rattle.fields.specs.Bytes.{all}
use Rattle.fields.specs.Names.{name_byte, all_name_bytes}
use Rattle.fields.proofs.Both.{both, both_left, both_right}
use Rattle.labels.specs.Text.{split}

-- no byte is the mark
abbrev pub lacks : ℕ → List ℕ → Bool
lacks mark = all (λ x. not (eqb x mark))

module _ (mark : ℕ) where
  first-differs : (x : ℕ) (xs : List ℕ) → lacks mark (x ∷ xs) ≡ true → eqb x mark ≡ false
  unfolding all
  first-differs x xs h = not-true (eqb x mark) (both_left (not (eqb x mark)) (lacks mark xs) h)

  rest-lacks : (x : ℕ) (xs : List ℕ) → lacks mark (x ∷ xs) ≡ true → lacks mark xs ≡ true
  unfolding all
  rest-lacks x xs h = both_right (not (eqb x mark)) (lacks mark xs) h

  -- the last part
  pub split-alone : (part : List ℕ) → lacks mark part ≡ true → split mark part ≡ part ∷ []
  unfolding split
  split-alone [] h = refl
  split-alone (x ∷ xs) h = rw (first-differs x xs h, split-alone xs (rest-lacks x xs h))

  -- a part and those after its mark
  pub split-joined : (part rest : List ℕ) → lacks mark part ≡ true → split mark (part ++ mark ∷ rest) ≡ part ∷ split mark rest
  unfolding split
  split-joined [] rest h = rw (eq-eqb mark mark refl)
  split-joined (x ∷ xs) rest h = rw (first-differs x xs h, split-joined xs rest (rest-lacks x xs h))

  -- names have no mark, which is no byte of their alphabet
  pub name-lacks : name_byte mark ≡ false → (name : List ℕ) → all_name_bytes name ≡ true → lacks mark name ≡ true
  unfolding all
  name-lacks n [] h = refl
  name-lacks n (x ∷ xs) h =
      both (not (eqb x mark)) (lacks mark xs) (at (eqb x mark) refl) (name-lacks n xs (both_right (name_byte x) (all_name_bytes xs) h))
    where
      at : (t : Bool) → eqb x mark ≡ t → not t ≡ true
      at false e = refl
      at true e = absurd (true≢false (sym (both_left (name_byte x) (all_name_bytes xs) h) ∙ ap name_byte (eqb-true x mark e) ∙ n))
