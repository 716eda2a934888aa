-- A writable row is readable, with READ, FULL or COMPACCESS or without: the write compartments lie in the session's compartments, the
-- write groups in below(session groups), the release profile asks the read test itself, and FULL reads whatever it writes. Assumes nothing.
use Prim.Native.Nat.{ℕ}
use mathlib.Core.Path.{◌≡◌, refl, sym}
use mathlib.Core.Bool.{Bool, true, false, cond, not, ◌&&◌, ◌||◌, true≢false}
use mathlib.Core.List.{List}
use lib.Dec.{leb}
use Rattle.fields.proofs.Both.{parts}
use Rattle.sets.specs.Sets.{has, empty, within, meets}
use Rattle.sets.proofs.Within.{within-refl, within-trans, intersection-within-left}
use Rattle.sets.proofs.Meets.{meets-mono}
use Rattle.header.specs.declared.profile.Profile.{Profile}
use Rattle.header.specs.declared.profile.Profile.TheVariants.{Tree, Release}
use Rattle.header.specs.Layout.{edition_of, by_profile, user_record}
use Rattle.records.specs.Fields.{write_compartments, write_groups}
use Rattle.hierarchy.specs.Below.{reach}
use Rattle.image.specs.Lookup.{label_of_tag}
use Rattle.labels.specs.Label.{Marks, label_at}
use Rattle.labels.specs.GroupTest.{group_test}
use Rattle.access.specs.Rights.{Rights, rights_at, write_compartments_of, write_groups_of}
use Rattle.records.specs.Fields.{place_of_read, place_of_full}
use Rattle.access.specs.Verdicts.{reads_all, writes_all, holds_compaccess, reads_label, writes_label, known_tag, may_read, may_write}
use Rattle.access.specs.Verdicts.{read_level_rule, read_groups_rule, read_compartments_rule, compaccess_reads, read_tests}
use Rattle.access.specs.Verdicts.{write_level_rule, write_groups_rule, write_compartments_rule, compaccess_writes, write_tests}
use Rattle.access.specs.Verdicts.{tree_sets_rule, release_sets_rule, write_sets_rule}
use Rattle.access.proofs.Tests.{unknown-mono, and_mono, or_mono, cond-mono}

-- the write compartments lie inside the compartments of reading, and in the old profile the write groups inside what is reached
record WriteInRead (rights : Rights) : Type 0 where
  compartments : within rights.write_compartments rights.compartments ≡ true
  groups : rights.profile ≡ Tree → within rights.write_groups rights.reached_groups ≡ true

-- FULL reads whatever it writes, tag 0 and unknown tags too
all-writable-readable : (rights : Rights) → writes_all rights ≡ true → reads_all rights ≡ true
unfolding writes_all reads_all
all-writable-readable rights =
    or_mono false (has rights.privileges place_of_full) (has rights.privileges place_of_read) (has rights.privileges place_of_full)
    (λ (e : false ≡ true). absurd (true≢false (sym e)))
    (λ (e : has rights.privileges place_of_full ≡ true). e)

module _ (rights : Rights) (inside : WriteInRead rights) (row : Marks) where
  level-readable : write_level_rule rights row ≡ true → read_level_rule rights row ≡ true
  unfolding write_level_rule read_level_rule
  level-readable e = (parts (leb rights.minimum row.level) (leb row.level rights.level) e).1

  compartments-readable : write_compartments_rule rights row ≡ true → read_compartments_rule rights row ≡ true
  unfolding write_compartments_rule read_compartments_rule
  compartments-readable e = within-trans row.compartments rights.write_compartments rights.compartments e inside.compartments

  tree-readable : rights.profile ≡ Tree → tree_sets_rule rights row ≡ true → (read_groups_rule rights row && read_compartments_rule rights row) ≡ true
  unfolding tree_sets_rule read_groups_rule group_test write_groups_rule read_compartments_rule
  tree-readable tree e = rw tree (at (empty row.groups) e)
    where
      at : (t : Bool) → cond t (write_compartments_rule rights row) (meets row.groups rights.write_groups && read_compartments_rule rights row) ≡ true
          → ((t || meets row.groups rights.reached_groups) && read_compartments_rule rights row) ≡ true
      at true e = compartments-readable e
      at false e =
          and_mono _ _ _ _
          (meets-mono row.groups rights.write_groups row.groups rights.reached_groups (within-refl row.groups) (inside.groups tree))
          (λ e. e) e

  release-readable : release_sets_rule rights row ≡ true → (read_groups_rule rights row && read_compartments_rule rights row) ≡ true
  unfolding release_sets_rule
  release-readable e = (parts _ _ e).0

  sets-readable : write_sets_rule rights row ≡ true → (read_groups_rule rights row && read_compartments_rule rights row) ≡ true
  unfolding write_sets_rule
  sets-readable = at rights.profile refl
    where
      at : (p : Profile) → rights.profile ≡ p → by_profile p (tree_sets_rule rights row) (release_sets_rule rights row) ≡ true
          → (read_groups_rule rights row && read_compartments_rule rights row) ≡ true
      at Tree q e = tree-readable q e
      at Release q e = release-readable e

  by-sets : (write_level_rule rights row && write_sets_rule rights row) ≡ true
      → (read_level_rule rights row && read_groups_rule rights row && read_compartments_rule rights row) ≡ true
  by-sets e =
      let q = parts (write_level_rule rights row) (write_sets_rule rights row) e in
      let s = parts (read_groups_rule rights row) (read_compartments_rule rights row) (sets-readable q.1) in
      rw (level-readable q.0, s.0, s.1)

  by-compaccess : compaccess_writes rights row ≡ true → compaccess_reads rights row ≡ true
  unfolding compaccess_writes compaccess_reads
  by-compaccess =
      and_mono _ _ _ _
      (and_mono _ _ _ _ (and_mono _ _ _ _ (λ (e : holds_compaccess rights ≡ true). e) level-readable) (λ (e : not (empty row.compartments) ≡ true). e))
      compartments-readable

  tests-readable : write_tests rights row ≡ true → read_tests rights row ≡ true
  unfolding write_tests read_tests
  tests-readable = or_mono _ _ _ _ by-sets by-compaccess

  label-readable : writes_label rights row ≡ true → reads_label rights row ≡ true
  unfolding writes_label reads_label
  label-readable = or_mono _ _ _ _ (all-writable-readable rights) tests-readable

module _ (im : List ℕ) (u : ℕ) (label : Marks) where
  write-in-read : WriteInRead (rights_at im u label)
  unfolding rights_at write_compartments_of write_groups_of
  write-in-read =
      record {
        compartments = intersection-within-left label.compartments (write_compartments (user_record im u));
        groups = λ tree.
            rw tree (intersection-within-left (reach im label.groups) (reach im (write_groups (edition_of im) (user_record im u))));
      }

  pub label-writable-readable : (row : Marks) → writes_label (rights_at im u label) row ≡ true → reads_label (rights_at im u label) row ≡ true
  label-writable-readable row = label-readable (rights_at im u label) write-in-read row

  -- a tag that no label carries is written by FULL alone, which reads it too
  pub writable-readable : (tag : ℕ) → may_write im (rights_at im u label) tag ≡ true → may_read im (rights_at im u label) tag ≡ true
  unfolding may_write may_read
  writable-readable tag =
      cond-mono (known_tag im tag) (label-writable-readable (label_at im (label_of_tag im tag)))
      (unknown-mono (edition_of im) (all-writable-readable (rights_at im u label)))
