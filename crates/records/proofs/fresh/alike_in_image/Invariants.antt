use Rattle.std.proofs.Common.{◌≡◌, ◌-◌, ◌<◌, ◌≤◌}
use Rattle.fields.specs.Scan.{first_where}
use Rattle.header.specs.declared.layout.Kind.TheVariants.{Component}
use Rattle.header.specs.Layout.{shape_of, record_at, Standing}
use Rattle.records.specs.Fresh.{alike}
use Rattle.records.proofs.fresh.alike_in_image.Given as goal

-- past the last place `here` may stand for none
abbrev pub invariant-loop-from : goal.invariant-loop-from
invariant-loop-from l =
    (l.from ≤ l.end) × ((l.from < l.end → Standing (shape_of l.image Component) l.from l.here)
    × (first_where (λ j. alike l.field (record_at l.image Component j)) (l.end - l.from) l.from
    ≡ first_where (λ j. alike l.field (record_at l.image Component j)) (l.end - l.start) l.start))

abbrev pub decreases-loop-from : goal.decreases-loop-from
decreases-loop-from l = l.end - l.from
