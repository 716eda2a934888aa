use Prim.Native.Nat.{ℕ, ◌≤◌, ◌<◌}
use native.Mathlib.Omega.{arith}
use Rattle.header.specs.Layout.{by_edition}
use Rattle.moves.specs.declared.target.Move.{Move}
use Rattle.moves.specs.declared.target.Move.TheVariants.{Up, Clear}
use Rattle.moves.specs.Moved.{edition_after}
use Rattle.moves.proofs.laying.put_counts.Goals as goal

-- the groups of edition 1 fit the group count of either edition
few-groups : (which : Move) (count : ℕ) → count ≤ 64 → count < by_edition (edition_after which) 256 65536
few-groups Up count h = omega arith
few-groups Clear count h = omega arith

pub put_header-requires : goal.put_header-requires
put_header-requires g c =
    let few = few-groups g.S.Step.which _ c.requires.1.0 in
    record {
      groups_bound = (
        rw (c.edition.ensures, c.groups-groups.ensures.0) few,
        (omega (arith, c.users-users.ensures.1), omega (arith, c.labels-labels.ensures.1)),
      );
      at_in_bounds = omega (arith, c.requires.1.1);
    }

pub returns : goal.returns
returns g c =
    rw (
      c.levels-levels.ensures.0,
      c.compartments-compartments.ensures.0,
      c.groups-groups.ensures.0,
      c.users-users.ensures.0,
      c.labels-labels.ensures.0,
      c.edition.ensures,
      c.profile_of.ensures,
    )
    at c.put_header.ensures
