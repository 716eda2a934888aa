-- In the release profile a group that is added to a row's label hides it from no session that read it, and one that is added to a session shows it no row
-- more. Assumes nothing.
use Prim.Native.Nat.{ℕ}
use mathlib.Core.Path.{◌≡◌, refl}
use mathlib.Core.Bool.{Bool, true, not, ◌&&◌}
use mathlib.Core.List.{List}
use native.Mathlib.Omega.{arith}
use lib.Dec.{leb}
use Rattle.sets.specs.Sets.{one, union, empty, within}
use Rattle.sets.proofs.Within.{within-refl, within-trans, within-union-left}
use Rattle.header.specs.declared.profile.Profile.TheVariants.{Release}
use Rattle.header.specs.Layout.{profile_of, user_record}
use Rattle.hierarchy.specs.Below.{reach}
use Rattle.records.specs.Fields.{privileges}
use Rattle.labels.specs.Label.{Marks, marks}
use Rattle.labels.specs.GroupTest.{group_test}
use Rattle.access.specs.Rights.{Rights, rights_at}
use Rattle.access.specs.Verdicts.{reads_all, holds_compaccess, reads_label, may_read}
use Rattle.access.specs.Verdicts.{read_level_rule, read_groups_rule, read_compartments_rule, compaccess_reads, read_tests}
use Rattle.access.proofs.Tests.{and_mono, or_mono}
use Rattle.access.proofs.More.{MoreReading, may-read-more}

-- the label with one more group
abbrev pub with_group : ℕ → Marks → Marks
with_group g m = marks m.level m.compartments (union m.groups (one g))

-- ---- a row
module _ (rights : Rights) (release : rights.profile ≡ Release) (row : Marks) (g : ℕ) where
  groups-released : read_groups_rule rights row ≡ true → read_groups_rule rights (with_group g row) ≡ true
  unfolding read_groups_rule group_test
  groups-released e =
      rw release
      (within-trans rights.reached_groups row.groups (union row.groups (one g)) (rw release at e) (within-union-left row.groups (one g)))

  by_tests : read_tests rights row ≡ true → read_tests rights (with_group g row) ≡ true
  unfolding read_tests compaccess_reads read_level_rule read_compartments_rule
  by_tests =
      let level : Bool = leb row.level rights.level in
      let compartments : Bool = within row.compartments rights.compartments in
      or_mono _ _ _ (holds_compaccess rights && level && not (empty row.compartments) && compartments)
      (and_mono _ compartments _ compartments (and_mono level _ level _ (λ e. e) groups-released) (λ e. e)) (λ e. e)

  pub released-further : reads_label rights row ≡ true → reads_label rights (with_group g row) ≡ true
  unfolding reads_label
  released-further = or_mono (reads_all rights) _ (reads_all rights) _ (λ e. e) by_tests

-- ---- a session
module _ (im : List ℕ) (release : profile_of im ≡ Release) (u : ℕ) (label : Marks) (g : ℕ) where
  fewer-rights : MoreReading (rights_at im u (with_group g label)) (rights_at im u label)
  unfolding rights_at reach
  fewer-rights =
      record {
        level = omega arith;
        compartments = within-refl label.compartments;
        profile = refl;
        groups = rw release (within-union-left label.groups (one g));
        privileges = within-refl (privileges (user_record im u));
      }

  pub shown-no-more : (tag : ℕ) → may_read im (rights_at im u (with_group g label)) tag ≡ true → may_read im (rights_at im u label) tag ≡ true
  shown-no-more = may-read-more (rights_at im u (with_group g label)) (rights_at im u label) fewer-rights im
