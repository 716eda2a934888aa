use mathlib.Core.Path.{◌∙◌}
use Rattle.header.specs.declared.layout.Kind.TheVariants.{Component, User}
use Rattle.header.specs.Layout.{counts_of, records_of}
use Rattle.header.proofs.Inside.{header-inside}
use Rattle.hierarchy.proofs.OfImage.{tabled-alike, tabled-ordered}
use Rattle.hierarchy.proofs.UsersHeld.{held-bad}
use Rattle.hierarchy.proofs.group_rules.first_bad_below.Goals as goal

pub profile_of-profile-requires : goal.profile_of-profile-requires
profile_of-profile-requires c = header-inside _ c.requires.0.fitted

pub groups-count-requires : goal.groups-count-requires
groups-count-requires c = header-inside _ c.requires.0.fitted

pub first_bad_sets-requires : goal.first_bad_sets-requires
first_bad_sets-requires c =
    let table = c.args.table.now in
    (tabled-ordered _ table _ c.groups-count.ensures.0 c.requires.0 c.requires.1.0, (c.in_image.ensures.among, c.requires.1.1))

pub returns : goal.returns
returns c =
    let im = c.args.image.now in
    let alike = tabled-alike im c.args.table.now _ c.groups-count.ensures.0 c.requires.1.0.0 in
    c.first_bad_sets.ensures
    ∙ held-bad (counts_of im) (records_of im Component) (records_of im User) im _ _ _ c.in_image.ensures alike c.profile_of-profile.ensures
