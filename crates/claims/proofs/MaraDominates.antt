-- The theorem on dominance and reading has instances: MARA's opened session in the sample reads the row of tag 10, whose label hers dominates,
-- and not that of tag 20. Assumes nothing.
use Rattle.std.proofs.Common.{Ok, false}
use mathlib.Core.Path.{◌≡◌, refl, sym, ◌∙◌}
use mathlib.Core.Bool.{true}
use Rattle.fields.specs.Bytes.{number2, number4}
use Rattle.fields.specs.Scan.{first_bad}
use Rattle.sets.specs.Sets.{has}
use Rattle.header.specs.Layout.{levels, compartments, groups, users, labels, components, first_block, blocks_for, record_offset, record_at, edition_of}
use Rattle.image.specs.Lookup.{label_of_tag}
use Rattle.labels.specs.Label.{label_at}
use Rattle.access.specs.Verdicts.{known_tag}
use Rattle.sessions.specs.Asking.{may_read_of}
use Rattle.dominance.specs.TwoLabels.{dominates_of}
use Rattle.sample.specs.Cooperative.{cooperative}
use Rattle.sample.proofs.Mara.{mara, mara-passes}
use Rattle.sample.proofs.MaraReads.{no-privileges, mara-verdicts}
use Rattle.claims.specs.Reading.{NoPrivileges}
use Rattle.claims.proofs.ReadsDominated.{reads-dominated}

mara-none : NoPrivileges cooperative 0
unfolding has
mara-none = record { read = rw no-privileges; full = rw no-privileges; compaccess = rw no-privileges }

known : (known_tag cooperative 10 ≡ true) × (known_tag cooperative 20 ≡ true)
unfolding known_tag label_of_tag cooperative number2 number4 first_bad levels compartments groups users labels components first_block blocks_for record_offset record_at edition_of
known = (refl, refl)

reads : (may_read_of cooperative mara 10 ≡ Ok true) × (may_read_of cooperative mara 20 ≡ Ok false)
unfolding may_read_of
reads = (rw (mara-passes, mara-verdicts.reads10), rw (mara-passes, mara-verdicts.hides20))

pub mara-dominates : (dominates_of cooperative mara.label (label_at cooperative (label_of_tag cooperative 10)) ≡ Ok true)
    × (dominates_of cooperative mara.label (label_at cooperative (label_of_tag cooperative 20)) ≡ Ok false)
mara-dominates = (
  sym (reads-dominated cooperative mara 10 mara-passes mara-none known.0) ∙ reads.0,
  sym (reads-dominated cooperative mara 20 mara-passes mara-none known.1) ∙ reads.1,
)
