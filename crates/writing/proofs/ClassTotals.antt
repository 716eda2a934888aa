-- Component records that each name the class of their place: as many name a class as the counts give it. Assumes nothing.
use Prim.Native.Nat.{ℕ, ◌+◌, ◌≤◌, ◌<◌}
use mathlib.Core.Path.{◌≡◌, ◌∙◌}
use mathlib.Core.List.{List}
use native.Mathlib.Omega.{arith}
use borrow.Author.Tests.{eq-eqb}
use lib.Dec.{eqb}
use lib.ListN.{length}
use Rattle.header.specs.declared.counts.Counts.{Counts}
use Rattle.header.specs.Layout.{class_at}
use Rattle.records.specs.Fields.{class_of}
use Rattle.records.specs.Rules.{record_in}
use Rattle.records.proofs.MeaningComponents.{class-level, class-compartment, class-group}
use Rattle.writing.specs.Lent.{class_total, lent_counts}
use Rattle.writing.proofs.Totals.{where-run, counts-most}

module _ (n : Counts) (components : List (List ℕ)) (all : length components ≡ n.levels + n.compartments + n.groups)
    (classed : (i : ℕ) → i < length components → class_of (record_in components i) ≡ class_at n i) where
  -- a class has as many at least as stand where the counts put it
  at_least : (class from count : ℕ) → from + count ≤ length components → ((i : ℕ) → from ≤ i → i < from + count → class_at n i ≡ class)
      → count ≤ class_total components class
  unfolding class_total
  at_least class from count inside at =
      where-run (λ i. eqb (class_of (record_in components i)) class) (length components) 0 from count (omega arith) (omega arith)
      (λ i low high. eq-eqb _ class (classed i (omega arith) ∙ at i low high))

  levels-least : n.levels ≤ class_total components 1
  levels-least = at_least 1 0 n.levels (omega arith) (λ i low high. class-level n i (omega arith))

  compartments-least : n.compartments ≤ class_total components 2
  compartments-least = at_least 2 n.levels n.compartments (omega arith) (λ i low high. class-compartment n i low high)

  groups-least : n.groups ≤ class_total components 3
  groups-least = at_least 3 (n.levels + n.compartments) n.groups (omega arith) (λ i low high. class-group n i low)

  most : class_total components 1 + class_total components 2 + class_total components 3 ≤ length components
  most = counts-most n.edition n.profile components

  -- and no more, since all of them together are no more
  pub own-counts : lent_counts n.edition n.profile components ≡ n
  own-counts =
      let levels : class_total components 1 ≡ n.levels = omega (arith, levels-least, compartments-least, groups-least, most) in
      let compartments : class_total components 2 ≡ n.compartments = omega (arith, levels-least, compartments-least, groups-least, most) in
      let groups : class_total components 3 ≡ n.groups = omega (arith, levels-least, compartments-least, groups-least, most) in
      rw (levels, compartments, groups)
