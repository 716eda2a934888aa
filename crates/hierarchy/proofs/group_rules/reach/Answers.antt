use mathlib.Core.Path.{sym, ◌∙◌}
use Rattle.sets.specs.Groups.{places_of}
use Rattle.header.proofs.Inside.{header-inside}
use Rattle.hierarchy.specs.Below.{reach}
use Rattle.hierarchy.proofs.Alike.{below_alike}
use Rattle.hierarchy.proofs.OfImage.{in_tree, tabled-alike, tabled-ordered}
use Rattle.hierarchy.proofs.group_rules.reach.Goals as goal

pub profile_of-requires : goal.profile_of-requires
profile_of-requires c = header-inside _ c.requires.0.fitted

pub groups-requires : goal.groups-requires
groups-requires c = header-inside _ c.requires.0.fitted

pub below-requires : goal.below-requires
below-requires c =
    tabled-ordered _ c.args.table.now _ c.groups.ensures.0 c.requires.0 c.requires.1

pub returns-in-Tree : goal.returns-in-Tree
unfolding reach
returns-in-Tree c =
    let same = tabled-alike _ c.args.table.now _ c.groups.ensures.0 c.requires.1.0 in
    let tree = sym c.profile_of.ensures ∙ c.in-Tree.is in
    c.below.ensures ∙ below_alike _ _ same (places_of c.args.s) ∙ in_tree _ _ _ tree

pub returns-in-Release : goal.returns-in-Release
unfolding reach
returns-in-Release c = rw (sym c.profile_of.ensures ∙ c.in-Release.is)
