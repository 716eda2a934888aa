-- A record that is cleared of COMPACCESS holds what it held but for that privilege. Assumes nothing.
use Prim.Native.Nat.{ℕ, ◌+◌, ◌-◌, ◌≤◌, ◌<◌}
use mathlib.Core.Path.{◌≡◌, refl, sym, ap, ◌∙◌, subst}
use mathlib.Core.Bool.{Bool, true, false, cond}
use mathlib.Core.List.{List, ◌∷◌, ◌++◌}
use native.Mathlib.Nat.{zero-add}
use native.Mathlib.Numerals.{lt_of_le_of_ne}
use native.Mathlib.Omega.{arith}
use borrow.Author.Tests.{eqb-true, ltb-true, ltb-false}
use lib.Dec.{eqb, ltb}
use lib.ListN.{length, take, drop, length-append, length-drop}
use lib.Seq.{take_at, drop_at, drop-drop, get_or-append_seam, get_or-drop}
use Rattle.fields.specs.Bytes.{byte_at, part, number8}
use Rattle.fields.proofs.Laws.{part_length}
use Rattle.header.specs.declared.edition.Edition.TheVariants.{One}
use Rattle.header.specs.declared.layout.Kind.{Kind}
use Rattle.header.specs.declared.layout.Kind.TheVariants.{Component, Label, User}
use Rattle.header.specs.Layout.{record_size}
use Rattle.records.specs.Fields.{privileges, parent_of, groups_at}
use Rattle.moves.specs.declared.target.Move.TheVariants.{Clear}
use Rattle.moves.specs.Moved.{without_compaccess, clear_user, clear_record}
use Rattle.moves.proofs.Fronts.{same-part, same_byte, same-number8}
use Rattle.moves.proofs.RecordsAlike.{held_after, ComponentAlike, LabelAlike, UserAlike}

-- ---- a component and a label stay
pub component-same : (rec : List ℕ) → ComponentAlike One One rec rec
component-same rec = record { class = refl; name = refl; numeric = refl; parent = at (eqb (parent_of One rec) 255) refl }
  where
    at : (t : Bool) → eqb (parent_of One rec) 255 ≡ t → parent_of One rec ≡ cond t 255 (parent_of One rec)
    at true e = eqb-true _ _ e
    at false e = refl

pub label_same : (rec : List ℕ) → LabelAlike One One rec rec
label_same rec = record { tag = refl; level = refl; compartments = refl; groups = refl }

-- ---- a user
module _ (rec : List ℕ) (long : length rec ≡ record_size One User) where
  name-length : length (part rec 0 31) ≡ 31
  name-length = part_length rec 0 31 (omega arith)

  abbrev after : List ℕ
  after = without_compaccess (privileges rec) ∷ drop 32 rec

  pub cleared-length : length (clear_user rec) ≡ record_size One User
  unfolding clear_user
  cleared-length = omega (arith, length-append (part rec 0 31) after, name-length, length-drop 32 rec)

  pub cleared-front : part (clear_user rec) 0 31 ≡ part rec 0 31
  unfolding clear_user
  cleared-front = take_at (part rec 0 31) after 31 name-length

  pub cleared-held : privileges (clear_user rec) ≡ without_compaccess (privileges rec)
  unfolding clear_user
  cleared-held =
      ap (byte_at (part rec 0 31 ++ after)) (sym name-length) ∙ get_or-append_seam (part rec 0 31) (without_compaccess (privileges rec)) (drop 32 rec) 0

  pub cleared-back : drop 32 (clear_user rec) ≡ drop 32 rec
  unfolding clear_user
  cleared-back = sym (drop-drop 1 31 (part rec 0 31 ++ after)) ∙ ap (drop 1) (drop_at (part rec 0 31) after 31 name-length)

  back : part (clear_user rec) 32 96 ≡ part rec 32 96
  back = ap (take 96) cleared-back

  byte-kept : (i : ℕ) → i < 96 → byte_at (clear_user rec) (32 + i) ≡ byte_at rec (32 + i)
  byte-kept i h = same_byte (clear_user rec) rec 32 32 96 back i h

  number-kept : (i : ℕ) → i + 8 ≤ 96 → number8 (clear_user rec) (32 + i) ≡ number8 rec (32 + i)
  number-kept i h = same-number8 (clear_user rec) rec 32 32 96 back i h

  groups-kept : (i : ℕ) → i + 8 ≤ 96 → groups_at One (clear_user rec) (32 + i) ≡ groups_at One rec (32 + i)
  unfolding groups_at
  groups-kept i h = rw (number-kept i h)

  pub user-cleared : UserAlike (held_after Clear) One One rec (clear_user rec)
  user-cleared =
      record {
        name = same-part (clear_user rec) rec 0 0 31 cleared-front 0 31 (omega arith);
        held = cleared-held;
        level_maximum = byte-kept 0 (omega arith);
        level_minimum = byte-kept 1 (omega arith);
        level_default = byte-kept 2 (omega arith);
        level_row = byte-kept 3 (omega arith);
        compartments_read = number-kept 8 (omega arith);
        compartments_write = number-kept 16 (omega arith);
        compartments_default = number-kept 24 (omega arith);
        compartments_row = number-kept 32 (omega arith);
        groups_read = groups-kept 40 (omega arith);
        groups_write = groups-kept 48 (omega arith);
        groups_default = groups-kept 56 (omega arith);
        groups_row = groups-kept 64 (omega arith);
      }

  -- every byte but that of the privileges stays
  pub cleared-byte : (i : ℕ) → (i ≡ 31 → ⊥) → byte_at (clear_user rec) i ≡ byte_at rec i
  cleared-byte i other = at (ltb i 31) refl
    where
      at : (t : Bool) → ltb i 31 ≡ t → byte_at (clear_user rec) i ≡ byte_at rec i
      at true e = rw zero-add at (same_byte (clear_user rec) rec 0 0 31 cleared-front i (ltb-true i 31 e))
      at false e =
          let h = ltb-false i 31 e in
          let more : 32 ≤ i = lt_of_le_of_ne h (λ q. other (sym q)) in
          let place : 32 + (i - 32) ≡ i = omega arith in
          subst (λ (j : ℕ). byte_at (clear_user rec) j ≡ byte_at rec j) place
          (sym (get_or-drop 32 (clear_user rec) (i - 32) 0) ∙ ap (λ (l : List ℕ). byte_at l (i - 32)) cleared-back ∙ get_or-drop 32 rec (i - 32) 0)

-- a record of any kind keeps its size
pub clear-length : (kind : Kind) (rec : List ℕ) → length rec ≡ record_size One kind → length (clear_record kind rec) ≡ record_size One kind
clear-length Component rec long = long
clear-length Label rec long = long
clear-length User rec long = cleared-length rec long
