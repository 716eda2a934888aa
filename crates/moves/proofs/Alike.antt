-- A record that either move writes holds what it held, each read as its edition has it; what was unused still is. Assumes nothing.
use Prim.Native.Nat.{ℕ, ◌≤◌, ◌<◌}
use mathlib.Core.Path.{◌≡◌, refl, ◌∙◌}
use mathlib.Core.List.{List}
use native.Mathlib.Omega.{arith}
use lib.ListN.{length}
use Rattle.fields.specs.Bytes.{byte_at}
use Rattle.header.specs.declared.edition.Edition.TheVariants.{One}
use Rattle.header.specs.declared.layout.Kind.{Kind}
use Rattle.header.specs.declared.layout.Kind.TheVariants.{Component, Label, User}
use Rattle.header.specs.Layout.{record_size}
use Rattle.records.specs.Fields.{component_end, user_end}
use Rattle.moves.specs.declared.target.Move.{Move}
use Rattle.moves.specs.declared.target.Move.TheVariants.{Up, Clear}
use Rattle.moves.specs.Moved.{edition_after, new_record}
use Rattle.moves.proofs.RecordsAlike as up
use Rattle.moves.proofs.RecordsAlike.{held_after, ComponentAlike, LabelAlike, UserAlike}
use Rattle.moves.proofs.ClearedAlike.{component-same, label_same, user-cleared, cleared-byte, clear-length}

-- bytes from `end` on are zero
abbrev Unused : ℕ → List ℕ → Type 0
Unused end rec = (i : ℕ) → end ≤ i → byte_at rec i ≡ 0

pub component-alike : (which : Move) (rec : List ℕ) → length rec ≡ record_size One Component
    → ComponentAlike One (edition_after which) rec (new_record which Component rec)
component-alike Up rec long = up.component-alike rec long
component-alike Clear rec long = component-same rec

pub component-unused : (which : Move) (rec : List ℕ) → length rec ≡ record_size One Component
    → Unused (component_end One) rec → Unused (component_end (edition_after which)) (new_record which Component rec)
component-unused Up rec long spare = up.component-unused rec long
component-unused Clear rec long spare = spare

pub label-alike : (which : Move) (rec : List ℕ) → length rec ≡ record_size One Label
    → LabelAlike One (edition_after which) rec (new_record which Label rec)
label-alike Up rec long = up.label-alike rec long
label-alike Clear rec long = label_same rec

-- bytes 5..7 too
pub label-byte : (which : Move) (rec : List ℕ) → length rec ≡ record_size One Label
    → (i : ℕ) → i < 16 → byte_at (new_record which Label rec) i ≡ byte_at rec i
label-byte Up rec long i h = up.label-byte rec long i h
label-byte Clear rec long i h = refl

pub user-alike : (which : Move) (rec : List ℕ) → length rec ≡ record_size One User
    → UserAlike (held_after which) One (edition_after which) rec (new_record which User rec)
user-alike Up rec long = up.user-alike rec long
user-alike Clear rec long = user-cleared rec long

-- bytes 36..39 too
pub user-byte : (which : Move) (rec : List ℕ) → length rec ≡ record_size One User
    → (i : ℕ) → 32 ≤ i → i < 72 → byte_at (new_record which User rec) i ≡ byte_at rec i
user-byte Up rec long i low high = up.user-byte rec long i high
user-byte Clear rec long i low high = cleared-byte rec long i (λ e. omega arith)

pub user-unused : (which : Move) (rec : List ℕ) → length rec ≡ record_size One User
    → Unused (user_end One) rec → Unused (user_end (edition_after which)) (new_record which User rec)
user-unused Up rec long spare = up.user-unused rec long
user-unused Clear rec long spare = λ i h. cleared-byte rec long i (λ e. omega arith) ∙ spare i h

-- a record of any kind has the size that the new edition gives it
pub new-length : (which : Move) (kind : Kind) (rec : List ℕ) → length rec ≡ record_size One kind
    → length (new_record which kind rec) ≡ record_size (edition_after which) kind
new-length Up kind rec long = up.up-length kind rec long
new-length Clear kind rec long = clear-length kind rec long
