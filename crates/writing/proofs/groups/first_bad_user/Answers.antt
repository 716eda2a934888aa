use mathlib.Core.Path.{refl, ◌∙◌}
use Rattle.header.specs.declared.layout.Kind.TheVariants.{User}
use Rattle.header.specs.Layout.{record_size}
use Rattle.records.specs.Rules.{run_records}
use Rattle.hierarchy.specs.Below.{forest_in}
use Rattle.hierarchy.proofs.Alike.{table-alike, tabled-by}
use Rattle.hierarchy.proofs.UsersHeld.{held-bad}
use Rattle.writing.proofs.groups.first_bad_user.Goals as goal

pub first_bad_sets-requires : goal.first_bad_sets-requires
first_bad_sets-requires c =
    let n = c.args.existing.counts in
    let f = forest_in n (run_records 40 c.args.components.now) in
    (tabled-by f n.groups c.args.table.now refl c.requires.exist.few_groups c.requires.tabled_in, (c.in_run.ensures.among, refl))

pub returns : goal.returns
returns c =
    let a = c.args in
    let n = a.existing.counts in
    let components = run_records 40 a.components.now in
    let alike = table-alike (forest_in n components) n.groups a.table.now refl c.requires.tabled_in.0 in
    c.first_bad_sets.ensures
    ∙ held-bad n components (run_records (record_size n.edition User) a.users.now) a.users.now _ _ _ c.in_run.ensures alike refl
