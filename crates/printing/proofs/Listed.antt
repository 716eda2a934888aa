-- The names of a list: how long they are, and one place more. Assumes nothing.
use Prim.Native.Nat.{ℕ, zero, suc, zero-le, ◌+◌, ◌-◌, ◌*◌, ◌≤◌, ◌<◌}
use mathlib.Core.Path.{◌≡◌, sym, ap, ◌∙◌}
use mathlib.Core.Bool.{Bool, true, false, cond}
use mathlib.Core.List.{List, [], ◌∷◌, ◌++◌}
use native.Mathlib.Nat.{min-le_left, le_trans, le_of_eq, add-zero}
use native.Mathlib.Numerals.{add-one, one-add}
use native.Mathlib.Omega.{arith}
use lib.ListN.{length, drop, length-append, length-take}
use Rattle.fields.specs.Bytes.{byte_at, part}
use Rattle.fields.specs.Names.{name_in}
use Rattle.fields.proofs.Laws.{part-byte}
use Rattle.sets.specs.Sets.{has}
use Rattle.header.specs.Layout.{component_record}
use Rattle.records.specs.Fields.{component_name_field}
use Rattle.image.specs.Check.{IsAccepted}
use Rattle.image.specs.Lookup.{has_component, component_index, name_length}
use Rattle.image.proofs.Placed.{name-long}
use Rattle.printing.specs.Print.{name_at, entry_at, listed}

-- a part is no longer than what was asked for
part-short : (s : List ℕ) (k n : ℕ) → length (part s k n) ≤ n
part-short s k n = le_trans (le_of_eq (length-take n (drop k s))) (min-le_left n (length (drop k s)))

-- ---- a name is at most 30 bytes
pub name-short : (im : List ℕ) → IsAccepted im → (class place : ℕ) → has_component im class place ≡ true
    → length (name_at im class place) ≤ 30
unfolding name_in name_length
name-short im acc class place has =
    let rec = component_record im (component_index im class place) in
    let field = component_name_field rec in
    let short : length (name_at im class place) ≤ byte_at field 0 = part-short field 1 (byte_at field 0) in
    let e : byte_at field 0 ≡ byte_at rec 1 = part-byte rec 1 31 0 (omega arith) in
    let l : byte_at rec 1 ≤ 30 = (name-long im acc class place has).1 in
    omega arith

-- ---- what one place adds
pub entry_has : (im : List ℕ) (class set k : ℕ) → has set k ≡ true → entry_at im class set k ≡ 44 ∷ name_at im class k
unfolding entry_at
entry_has im class set k e = rw e

pub entry-lacks : (im : List ℕ) (class set k : ℕ) → has set k ≡ false → entry_at im class set k ≡ []
unfolding entry_at
entry-lacks im class set k e = rw e

pub entry-short : (im : List ℕ) → IsAccepted im → (class set k : ℕ) → has_component im class k ≡ true
    → length (entry_at im class set k) ≤ 31
unfolding entry_at
entry-short im acc class set k h = at (has set k)
  where
    at : (t : Bool) → length (cond t (44 ∷ name_at im class k) []) ≤ 31
    at true = let l = name-short im acc class k h in omega arith
    at false = zero-le

pub entry-length-has : (im : List ℕ) (class set k : ℕ) (name : List ℕ) → has set k ≡ true → name ≡ name_at im class k
    → 1 + length name ≡ length (entry_at im class set k)
entry-length-has im class set k name e n = rw (entry_has im class set k e, n) (one-add (length (name_at im class k)))

-- ---- a loop over the places: at its end nothing is left, and each turn takes one place
module _ (im : List ℕ) (class set count : ℕ) where
  pub listed-end : (p : ℕ) → count ≤ p → listed im class set (count - p) p ≡ []
  unfolding listed
  listed-end p h = let e : count - p ≡ 0 = omega arith in rw e

  pub listed-step : (p : ℕ) → p < count
      → listed im class set (count - p) p ≡ entry_at im class set p ++ listed im class set (count - (p + 1)) (p + 1)
  unfolding listed
  listed-step p h = let e : count - p ≡ suc (count - (p + 1)) = omega arith in rw (e, add-one p)

  -- what was counted and what is left make the whole
  module _ (p n w : ℕ) where
    pub counted-end : count ≤ p → n + length (listed im class set (count - p) p) ≡ w → n ≡ w
    counted-end h inv = sym (add-zero n) ∙ (rw (listed-end p h) at inv)

    pub counted_step : (r : ℕ) → p < count → n + length (listed im class set (count - p) p) ≡ w
        → r ≡ length (entry_at im class set p) → n + r + length (listed im class set (count - (p + 1)) (p + 1)) ≡ w
    counted_step r h inv e =
        let rest = listed im class set (count - (p + 1)) (p + 1) in
        let s : length (listed im class set (count - p) p) ≡ length (entry_at im class set p) + length rest =
        ap length (listed-step p h) ∙ length-append (entry_at im class set p) rest in
        omega arith

-- ---- a list is at most 31 bytes for each place
pub listed-short : (im : List ℕ) → IsAccepted im → (class set n k : ℕ)
    → ((p : ℕ) → p < k + n → has_component im class p ≡ true) → length (listed im class set n k) ≤ 31 * n
unfolding listed
listed-short im acc class set zero k f = omega arith
listed-short im acc class set (suc n) k f =
    let one = entry-short im acc class set k (f k (omega arith)) in
    let rest = listed-short im acc class set n (suc k) (λ p h. f p (omega arith)) in
    omega (arith, length-append (entry_at im class set k) (listed im class set n (suc k)))
