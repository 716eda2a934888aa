-- Within the limits there are few records of each kind, and no more blocks than records. Assumes nothing.
use Prim.Native.Nat.{ℕ, ◌≤◌, ◌<◌}
use mathlib.Core.List.{List}
use native.Mathlib.Omega.{arith}
use lib.ListN.{length}
use Rattle.header.specs.declared.edition.Edition.{Edition}
use Rattle.header.specs.declared.edition.Edition.TheVariants.{One, Two}
use Rattle.header.specs.declared.counts.Counts.{Counts}
use Rattle.header.specs.declared.layout.Kind.{Kind}
use Rattle.header.specs.declared.layout.Kind.TheVariants.{Component, Label, User}
use Rattle.header.specs.Layout.{by_edition, capacity_of, blocks_for}
use Rattle.header.specs.Limits.{limits_in}
use Rattle.header.proofs.Editions.{most-groups, most-users, most-labels}
use Rattle.writing.specs.Laid.{Fits, Limited}

pub few-blocks : (edition : Edition) (kind : Kind) (count : ℕ) → blocks_for (capacity_of edition kind) count ≤ count
unfolding blocks_for
few-blocks One Component count = omega arith
few-blocks One Label count = omega arith
few-blocks One User count = omega arith
few-blocks Two Component count = omega arith
few-blocks Two Label count = omega arith
few-blocks Two User count = omega arith

group-byte : (edition : Edition) (count : ℕ) → count ≤ (limits_in edition).groups → count < by_edition edition 256 65536
group-byte One count h = omega arith
group-byte Two count h = omega arith

module _ (n : Counts) (users labels : ℕ) (l : Limited n users labels) where
  pub few-groups : n.groups < by_edition n.edition 256 65536
  few-groups = group-byte n.edition n.groups l.groups_limit

  pub few-labels : labels ≤ 1680
  few-labels = omega (arith, l.labels_limit, most-labels n.edition)

  pub few-users : users ≤ 96
  few-users = omega (arith, l.users_limit, most-users n.edition)

  pub few-components : (records : Kind → List (List ℕ)) → Fits n records → length (records Component) ≤ 352
  few-components records f = omega (arith, f.components, l.levels_limit, l.compartments_limit, l.groups_limit, most-groups n.edition)
