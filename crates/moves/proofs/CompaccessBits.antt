-- Privileges without COMPACCESS. Assumes nothing.
use Prim.Native.Nat.{ℕ}
use mathlib.Core.Path.{◌≡◌, refl, sym, ◌∙◌}
use mathlib.Core.Bool.{Bool, true, false, and-true, and-false}
use borrow.Author.Tests.{eqb-true, eqb-false, ne_eqb}
use lib.Dec.{eqb}
use Rattle.sets.specs.Sets.{has, one}
use Rattle.sets.proofs.Has.{has-ext, one_has, difference-has}
use Rattle.records.specs.Fields.{place_of_compaccess, has_compaccess}
use Rattle.moves.specs.Moved.{without_compaccess}

-- that place is gone, and every other one stays
pub bit-gone : (held : ℕ) → has_compaccess (without_compaccess held) ≡ false
unfolding without_compaccess
bit-gone held = difference-has held (one place_of_compaccess) 2 ∙ rw (one_has 2 2) (and-false (has held 2))

pub bit-stays : (held p : ℕ) → (p ≡ place_of_compaccess → ⊥) → has (without_compaccess held) p ≡ has held p
unfolding without_compaccess
bit-stays held p other =
    difference-has held (one place_of_compaccess) p
    ∙ rw (one_has 2 p, ne_eqb 2 p (λ e. other (sym e))) (and-true (has held p))

-- who does not hold it keeps all
pub none-gone : (held : ℕ) → has_compaccess held ≡ false → without_compaccess held ≡ held
none-gone held e = has-ext (without_compaccess held) held (λ p. at p (eqb p 2) refl)
  where
    at : (p : ℕ) (t : Bool) → eqb p 2 ≡ t → has (without_compaccess held) p ≡ has held p
    at p true q = rw (eqb-true p 2 q) (bit-gone held ∙ sym e)
    at p false q = bit-stays held p (eqb-false p 2 q)
