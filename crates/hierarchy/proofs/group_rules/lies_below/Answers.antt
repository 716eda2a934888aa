use mathlib.Core.Path.{sym, ap, ◌∙◌}
use Rattle.sets.specs.Sets.{within, all_below}
use Rattle.sets.specs.Groups.{places_of}
use Rattle.header.proofs.Inside.{header-inside}
use Rattle.hierarchy.proofs.Alike.{below_alike}
use Rattle.hierarchy.proofs.OfImage.{tabled-alike, tabled-ordered}
use Rattle.hierarchy.proofs.group_rules.lies_below.Goals as goal

pub groups-requires : goal.groups-requires
groups-requires c = header-inside _ c.requires.0.fitted

pub lies_below-requires : goal.lies_below-requires
lies_below-requires c =
    let count = c.groups.ensures.0 in
    (tabled-ordered _ c.args.table.now _ count c.requires.0 c.requires.1.0, c.requires.1.1 ∙ ap all_below (sym count))

pub returns : goal.returns
returns c =
    let same = tabled-alike _ c.args.table.now _ c.groups.ensures.0 c.requires.1.0.0 in
    c.lies_below.ensures ∙ ap (within (places_of c.args.set)) (below_alike _ _ same (places_of c.args.other))
