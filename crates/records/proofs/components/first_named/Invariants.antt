use Rattle.std.proofs.Common.{◌≡◌, ◌-◌, ◌<◌, ◌≤◌}
use Rattle.fields.specs.Names.{in_letters}
use Rattle.fields.specs.Scan.{first_bad}
use Rattle.header.specs.declared.layout.Kind.TheVariants.{Component}
use Rattle.header.specs.Layout.{shape_of, Standing}
use Rattle.records.specs.Rules.{others_named}
use Rattle.records.proofs.components.first_named.Given as goal

-- past the last place `here` may stand for none
abbrev pub invariant-loop-from : goal.invariant-loop-from
invariant-loop-from l =
    (l.from ≤ l.end) × ((l.from < l.end → Standing (shape_of l.image Component) l.from l.here)
    × (first_bad (others_named l.image (in_letters l.letters l.name)) (l.end - l.from) l.from
    ≡ first_bad (others_named l.image (in_letters l.letters l.name)) (l.end - l.start) l.start))

abbrev pub decreases-loop-from : goal.decreases-loop-from
decreases-loop-from l = l.end - l.from
