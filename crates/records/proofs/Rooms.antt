-- The fields of both editions lie inside their records. Assumes nothing.
use Rattle.std.proofs.Common.{ℕ, ◌+◌, ◌≤◌, arith}
use Rattle.header.specs.declared.edition.Edition.{Edition}
use Rattle.header.specs.declared.edition.Edition.TheVariants.{One, Two}
use Rattle.header.specs.declared.layout.Kind.TheVariants.{Label, User}
use Rattle.header.specs.Layout.{by_edition, record_size}

-- the bytes of a set of groups
abbrev pub set_size : Edition → ℕ
set_size edition = by_edition edition 8 32

pub label-room : (edition : Edition) → 16 + set_size edition ≤ record_size edition Label
label-room One = omega arith
label-room Two = omega arith

-- the first, second, third and fourth set of a user
pub user-rooms : (edition : Edition)
    → (72 + set_size edition ≤ record_size edition User) × ((by_edition edition 80 104 + set_size edition ≤ record_size edition User)
    × ((by_edition edition 88 136 + set_size edition ≤ record_size edition User) × (by_edition edition 96 168 + set_size edition ≤ record_size edition User)))
user-rooms One = (omega arith, (omega arith, (omega arith, omega arith)))
user-rooms Two = (omega arith, (omega arith, (omega arith, omega arith)))
