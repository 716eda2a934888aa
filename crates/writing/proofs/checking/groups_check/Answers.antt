use Rattle.std.proofs.Common.{Ok}
use Prim.Native.Nat.{ℕ, ◌+◌, ◌/◌, ◌≤◌}
use mathlib.Core.Path.{◌≡◌, refl, sym, ap, ◌∙◌, subst}
use mathlib.Core.List.{List}
use native.Mathlib.Omega.{arith}
use lib.ListN.{length}
use Rattle.header.specs.declared.counts.Counts.{Counts}
use Rattle.header.specs.declared.layout.Kind.TheVariants.{User}
use Rattle.header.specs.Layout.{record_size}
use Rattle.records.specs.Rules.{run_records}
use Rattle.hierarchy.specs.Below.{forest_in}
use Rattle.hierarchy.proofs.OrderTurns.{found-ring, found-parents, found-ordered}
use Rattle.hierarchy.proofs.Rings.{ring-none}
use Rattle.writing.specs.declared.answers.LentFault.TheVariants.{Record, Ring}
use Rattle.records.proofs.BlockRuns.{size-some}
use Rattle.records.proofs.Parts.{run-count}
use Rattle.writing.proofs.Totals.{counts-most}
use Rattle.writing.proofs.Faults.{told_here, told-after}
use Rattle.writing.proofs.checking.groups_check.Goals as goal

-- the number of users, as code has it
module _ (n : Counts) (bytes : List ℕ) (size : ℕ) (told : size ≡ record_size n.edition User) where
  abbrev users : List (List ℕ)
  users = run_records (record_size n.edition User) bytes

  count : length users ≡ length bytes / size
  count = run-count (record_size n.edition User) bytes ∙ ap (λ (s : ℕ). length bytes / s) (sym told)

pub fill-requires : goal.fill-requires
fill-requires c =
    let a = c.args in
    let n = a.existing.counts in
    let components = run_records 40 a.components.now in
    let most = subst (λ (m : Counts). m.levels + m.compartments + m.groups ≤ length components) (sym c.requires.1)
    (counts-most n.edition n.profile components) in
    (omega (arith, run-count 40 a.components.now), c.requires.0.few_groups)

pub returns-then-g-counts : goal.returns-then-g-counts
returns-then-g-counts c =
    let a = c.args in
    let n = a.existing.counts in
    let found = found-ring (forest_in n (run_records 40 a.components.now)) c.fill.new.table _ _ _ refl c.requires.0.few_groups
    c.fill.ensures c.put_order-g.ensures in
    sym (told_here Ring _ _ n.groups refl found c.if-g-counts.true)

pub first_bad_user-u-requires : goal.first_bad_user-u-requires
first_bad_user-u-requires c =
    let a = c.args in
    let n = a.existing.counts in
    let f = forest_in n (run_records 40 a.components.now) in
    let found = found-ring (forest_in n (run_records 40 a.components.now)) c.fill.new.table _ _ _ refl c.requires.0.few_groups
    c.fill.ensures c.put_order-g.ensures in
    let before = c.fill.new.table in
    let fits = c.requires.0.few_groups in
    let all : n.groups ≤ c.put_order-g.result = c.if-g-counts.false in
    record {
      exist = c.requires.0;
      tabled_in = (
        found-parents f before _ _ _ refl fits c.fill.ensures c.put_order-g.ensures,
        ring-none f (omega (arith, found)),
        found-ordered f before _ _ _ refl fits c.fill.ensures c.put_order-g.ensures all,
      );
    }

pub nonzero_div-users : goal.nonzero_div-users
nonzero_div-users c =
    let a = c.args in
    rw c.size.ensures (size-some a.existing.counts.edition User)

pub returns-then-u-users : goal.returns-then-u-users
returns-then-u-users c =
    let a = c.args in
    let n = a.existing.counts in
    let components = run_records 40 a.components.now in
    let users = a.users.now in
    let found = found-ring (forest_in n components) c.fill.new.table _ _ _ refl c.requires.0.few_groups
    c.fill.ensures c.put_order-g.ensures in
    let told = c.size.ensures in
    sym (told-after Ring _ _ n.groups refl found c.if-g-counts.false
    ∙ told_here (Record User) (Ok tt) _ _ (count n users _ told) c.first_bad_user-u.ensures c.if-u-users.true)

pub returns : goal.returns
returns c =
    let a = c.args in
    let n = a.existing.counts in
    let components = run_records 40 a.components.now in
    let users = a.users.now in
    let found = found-ring (forest_in n components) c.fill.new.table _ _ _ refl c.requires.0.few_groups
    c.fill.ensures c.put_order-g.ensures in
    let told = c.size.ensures in
    sym (told-after Ring _ _ n.groups refl found c.if-g-counts.false
    ∙ told-after (Record User) (Ok tt) _ _ (count n users _ told) c.first_bad_user-u.ensures c.if-u-users.false)
