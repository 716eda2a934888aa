-- Numbers that differ between the editions, and what holds in both. Assumes nothing.
use Prim.Native.Nat.{ℕ, ◌≤◌}
use mathlib.Core.List.{List}
use native.Mathlib.Omega.{arith}
use Rattle.header.specs.declared.edition.Edition.{Edition}
use Rattle.header.specs.declared.edition.Edition.TheVariants.{One, Two}
use Rattle.header.specs.declared.layout.Kind.{Kind}
use Rattle.header.specs.declared.layout.Kind.TheVariants.{Component, Label, User}
use Rattle.header.specs.Layout.{by_edition, edition_of, record_size, capacity_of, groups, users, labels, Roomy}
use Rattle.header.specs.Limits.{limits_in, Counted}

pub in_either : (edition : Edition) (P : ℕ → Type 0) {a b : ℕ} → P a → P b → P (by_edition edition a b)
in_either One P one two = one
in_either Two P one two = two

-- ---- the shapes of both editions
pub kind-roomy : (edition : Edition) (kind : Kind) (first count : ℕ)
    → Roomy (record { first = first; size = record_size edition kind; capacity = capacity_of edition kind; count = count })
kind-roomy edition Component first count = record { some = omega arith; few = omega arith; room = omega arith }
kind-roomy One Label first count = record { some = omega arith; few = omega arith; room = omega arith }
kind-roomy Two Label first count = record { some = omega arith; few = omega arith; room = omega arith }
kind-roomy One User first count = record { some = omega arith; few = omega arith; room = omega arith }
kind-roomy Two User first count = record { some = omega arith; few = omega arith; room = omega arith }

-- a record is no shorter than in edition 1
pub size-least : (edition : Edition) (kind : Kind) → record_size One kind ≤ record_size edition kind
size-least edition Component = omega arith
size-least One Label = omega arith
size-least Two Label = omega arith
size-least One User = omega arith
size-least Two User = omega arith

-- ---- the most of both editions
pub most-groups : (edition : Edition) → (limits_in edition).groups ≤ 256
most-groups One = omega arith
most-groups Two = omega arith

pub most-users : (edition : Edition) → (limits_in edition).users ≤ 96
most-users One = omega arith
most-users Two = omega arith

pub most-labels : (edition : Edition) → (limits_in edition).labels ≤ 1680
most-labels One = omega arith
most-labels Two = omega arith

pub most-text : (edition : Edition) → (limits_in edition).text ≤ 10000
most-text One = omega arith
most-text Two = omega arith

module _ (im : List ℕ) (k : Counted im) where
  pub counted-groups : groups im ≤ 256
  counted-groups = let h = most-groups (edition_of im) in omega (arith, k.groups_limit)

  pub counted-users : users im ≤ 96
  counted-users = let h = most-users (edition_of im) in omega (arith, k.users_limit)

  pub counted-labels : labels im ≤ 1680
  counted-labels = let h = most-labels (edition_of im) in omega (arith, k.labels_limit)
