-- A session with no privileges reads a known row exactly if its label dominates the row's. Assumes nothing.
use Rattle.std.proofs.Common.{Ok}
use Prim.Native.Nat.{ℕ, ◌<◌}
use mathlib.Core.Path.{◌≡◌, refl}
use mathlib.Core.Bool.{Bool, true, false, ◌&&◌, ◌||◌}
use mathlib.Core.List.{List}
use borrow.Author.Tests.{ltb-true}
use lib.Dec.{leb}
use Rattle.sets.specs.Sets.{within}
use Rattle.hierarchy.specs.Below.{below, reach}
use Rattle.header.specs.Layout.{labels, profile_of}
use Rattle.image.specs.Lookup.{label_of_tag}
use Rattle.labels.specs.Label.{Marks, label_at}
use Rattle.labels.specs.GroupTest.{group_test}
use Rattle.labels.proofs.Existing.{record-exists}
use Rattle.access.specs.Rights.{rights_at}
use Rattle.access.specs.Verdicts.{reads_all, holds_compaccess, read_level_rule, read_groups_rule, read_compartments_rule, compaccess_reads, read_tests, reads_label, known_tag, may_read}
use Rattle.sessions.specs.Session.{SessionMarks, lent_answer}
use Rattle.sessions.specs.Asking.{may_read_of}
use Rattle.sessions.proofs.Accepting.{lent-accepted}
use Rattle.sessions.proofs.Existing.{session-labels-exist}
use Rattle.dominance.specs.TwoLabels.{dominates_level, dominates_compartments, dominates_groups, dominates, dominates_of}
use Rattle.dominance.proofs.Compared.{Comparable, means-compared}
use Rattle.claims.specs.Reading.{NoPrivileges}

-- level, groups and compartments, in either order
exchanged : (a b c : Bool) → (a && b && c) ≡ (a && c && b)
exchanged true true true = refl
exchanged true true false = refl
exchanged true false true = refl
exchanged true false false = refl
exchanged false b c = refl

or-none : (a : Bool) → (a || false) ≡ a
or-none true = refl
or-none false = refl

-- on a label: the read tests are the tests of dominance
pub label-dominated : (im : List ℕ) (u : ℕ) (label row : Marks) → NoPrivileges im u → reads_label (rights_at im u label) row ≡ dominates im label row
unfolding reads_label reads_all read_tests compaccess_reads holds_compaccess read_level_rule read_groups_rule read_compartments_rule rights_at dominates dominates_level dominates_compartments dominates_groups
label-dominated im u label row none =
    rw (none.read, none.full, none.compaccess, or-none)
    (exchanged (leb row.level label.level) (group_test (profile_of im) (reach im label.groups) row.groups) (within row.compartments label.compartments))

known-here : (im : List ℕ) (tag : ℕ) → known_tag im tag ≡ true → label_of_tag im tag < labels im
unfolding known_tag
known-here im tag e = ltb-true (label_of_tag im tag) (labels im) e

-- of the verdict that a call answers
pub reads-dominated : (im : List ℕ) (s : SessionMarks) (tag : ℕ) → lent_answer im s ≡ (Ok tt) → NoPrivileges im s.user → known_tag im tag ≡ true
    → may_read_of im s tag ≡ dominates_of im s.label (label_at im (label_of_tag im tag))
unfolding may_read_of dominates_of may_read
reads-dominated im s tag lent none known =
    let acc = lent-accepted im s lent in
    let k : ℕ = label_of_tag im tag in
    let here : label_of_tag im tag < labels im = known-here im tag known in
    let both : Comparable im s.label (label_at im k) =
    record { accepted = acc; first = (session-labels-exist im s lent).0; second = record-exists im acc k here } in
    rw (lent, known, means-compared im s.label (label_at im k) both, label-dominated im s.user s.label (label_at im k) none)
