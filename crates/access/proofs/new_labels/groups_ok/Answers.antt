use mathlib.Core.Path.{sym, ap, ◌∙◌}
use native.Mathlib.Omega.{arith}
use Rattle.sets.specs.Sets.{all_below}
use Rattle.header.proofs.Inside.{header-inside}
use Rattle.header.proofs.Editions.{counted-groups}
use Rattle.hierarchy.proofs.OfImage.{in_tree}
use Rattle.access.specs.NewLabels.{session_groups_rule}
use Rattle.access.proofs.new_labels.groups_ok.Goals as goal

pub edition_of-requires : goal.edition_of-requires
edition_of-requires c = header-inside _ c.requires.0.fitted

pub sets_in-groups-requires : goal.sets_in-groups-requires
sets_in-groups-requires c =
    rw c.edition_of.ensures c.requires.1.1

pub groups-requires : goal.groups-requires
groups-requires c = header-inside _ c.requires.0.fitted

pub all_below-all-requires : goal.all_below-all-requires
all_below-all-requires c =
    omega (arith, c.groups.ensures.0, counted-groups c.args.image.now c.requires.0)

pub profile_of-requires : goal.profile_of-requires
profile_of-requires c = header-inside _ c.requires.0.fitted

pub lies_below-requires : goal.lies_below-requires
lies_below-requires c =
    let p = c.requires in
    (p.0, (p.1.0, c.all_below-all.ensures ∙ ap all_below c.groups.ensures.0))

pub returns-in-Tree : goal.returns-in-Tree
unfolding session_groups_rule
returns-in-Tree c =
    let tree = sym c.profile_of.ensures ∙ c.in-Tree.is in
    rw (c.lies_below.ensures, c.sets_in-groups.ensures.read, c.edition_of.ensures) (in_tree _ _ _ tree)

pub returns-in-Release : goal.returns-in-Release
unfolding session_groups_rule
returns-in-Release c =
    rw (
      sym c.profile_of.ensures ∙ c.in-Release.is,
      c.within.ensures,
      c.within-in-Release.ensures,
      c.all_below-all.ensures ∙ ap all_below c.groups.ensures.0,
      c.sets_in-groups.ensures.read,
      c.edition_of.ensures,
    )
