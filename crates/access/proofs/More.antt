-- More rights never hide a row: a level at least as high, more compartments, groups and write sets, and COMPACCESS where it was held,
-- keep every row readable and writable that was so. Assumes nothing.
use Prim.Native.Nat.{ℕ, ◌≤◌}
use mathlib.Core.Path.{◌≡◌, refl, sym, subst}
use mathlib.Core.Bool.{Bool, true, false, cond, ◌&&◌}
use mathlib.Core.List.{List}
use native.Mathlib.Omega.{arith}
use borrow.Author.Tests.{leb-true, le-leb}
use lib.Dec.{leb}
use Rattle.sets.specs.Sets.{has, one, union, empty, within, meets}
use Rattle.sets.proofs.Has.{one_has}
use Rattle.sets.proofs.Within.{within-union-right, within-refl, within-trans, within-union-left, within_has}
use Rattle.sets.proofs.Meets.{meets-mono}
use Rattle.image.specs.Lookup.{label_of_tag}
use Rattle.header.specs.declared.profile.Profile.{Profile}
use Rattle.header.specs.declared.profile.Profile.TheVariants.{Tree, Release}
use Rattle.header.specs.Layout.{edition_of, by_profile}
use Rattle.labels.specs.Label.{Marks, label_at}
use Rattle.labels.specs.GroupTest.{group_test}
use Rattle.access.specs.Rights.{Rights, with_privileges}
use Rattle.records.specs.Fields.{place_of_read, place_of_full, place_of_compaccess}
use Rattle.access.specs.Verdicts.{reads_all, writes_all, holds_compaccess, reads_label, writes_label, known_tag, may_read, may_write}
use Rattle.access.specs.Verdicts.{read_level_rule, read_groups_rule, read_compartments_rule, compaccess_reads, read_tests}
use Rattle.access.specs.Verdicts.{write_level_rule, write_groups_rule, write_compartments_rule, compaccess_writes, write_tests}
use Rattle.access.specs.Verdicts.{tree_sets_rule, release_sets_rule, write_sets_rule}
use Rattle.access.proofs.Tests.{unknown-mono, and_mono, or_mono, cond-mono}

-- the second's groups pass the group test wherever the first's do: they reach more; in the release profile they are fewer
abbrev pub GroupsMore : Profile → ℕ → ℕ → Type 0
GroupsMore Tree a b = within a b ≡ true
GroupsMore Release a b = within b a ≡ true

test-more : (p : Profile) (a b row : ℕ) → GroupsMore p a b → group_test p a row ≡ true → group_test p b row ≡ true
unfolding group_test
test-more Tree a b row more =
    or_mono (empty row) (meets row a) (empty row) (meets row b) (λ (e : empty row ≡ true). e)
    (λ (e : meets row a ≡ true). meets-mono row a row b (within-refl row) more e)
test-more Release a b row more = λ e. within-trans b a row more e

-- the second has all that the first has, for reading
pub record MoreReading (a b : Rights) : Type 0 where
  pub level : a.level ≤ b.level
  pub compartments : within a.compartments b.compartments ≡ true
  pub profile : b.profile ≡ a.profile
  pub groups : GroupsMore a.profile a.reached_groups b.reached_groups
  pub privileges : within a.privileges b.privileges ≡ true

-- and for writing
pub record MoreWriting (a b : Rights) : Type 0 where
  pub reading : MoreReading a b
  pub minimum : b.minimum ≤ a.minimum
  pub write_compartments : within a.write_compartments b.write_compartments ≡ true
  pub write_groups : within a.write_groups b.write_groups ≡ true

holds_more : (a b : Rights) → MoreReading a b → (p : ℕ) → has a.privileges p ≡ true → has b.privileges p ≡ true
holds_more a b more = within_has a.privileges b.privileges more.privileges

module _ (a b : Rights) (more : MoreReading a b) (row : Marks) where
  level-more : read_level_rule a row ≡ true → read_level_rule b row ≡ true
  unfolding read_level_rule
  level-more e = le-leb row.level b.level (omega (arith, leb-true row.level a.level e, more.level))

  compartment-more : read_compartments_rule a row ≡ true → read_compartments_rule b row ≡ true
  unfolding read_compartments_rule
  compartment-more e = within-trans row.compartments a.compartments b.compartments e more.compartments

  group-more : read_groups_rule a row ≡ true → read_groups_rule b row ≡ true
  unfolding read_groups_rule
  group-more e = rw more.profile (test-more a.profile a.reached_groups b.reached_groups row.groups more.groups e)

  pub reads_more : read_tests a row ≡ true → read_tests b row ≡ true
  unfolding read_tests compaccess_reads holds_compaccess
  reads_more =
      or_mono _ _ _ _ (and_mono _ _ _ _ (and_mono _ _ _ _ level-more group-more) compartment-more)
      (and_mono _ _ _ _ (and_mono _ _ _ _ (and_mono _ _ _ _ (holds_more a b more place_of_compaccess) level-more) (λ e. e)) compartment-more)

module _ (a b : Rights) (more : MoreWriting a b) (row : Marks) where
  write-level-more : write_level_rule a row ≡ true → write_level_rule b row ≡ true
  unfolding write_level_rule
  write-level-more =
      and_mono _ _ _ _
      (λ (e : leb a.minimum row.level ≡ true). le-leb b.minimum row.level (omega (arith, leb-true a.minimum row.level e, more.minimum)))
      (λ (e : leb row.level a.level ≡ true). le-leb row.level b.level (omega (arith, leb-true row.level a.level e, more.reading.level)))

  write-group-more : write_groups_rule a row ≡ true → write_groups_rule b row ≡ true
  unfolding write_groups_rule
  write-group-more = meets-mono row.groups a.write_groups row.groups b.write_groups (within-refl row.groups) more.write_groups

  write-compartment-more : write_compartments_rule a row ≡ true → write_compartments_rule b row ≡ true
  unfolding write_compartments_rule
  write-compartment-more e = within-trans row.compartments a.write_compartments b.write_compartments e more.write_compartments

  tree-sets-more : tree_sets_rule a row ≡ true → tree_sets_rule b row ≡ true
  unfolding tree_sets_rule
  tree-sets-more = at (empty row.groups)
    where
      at : (t : Bool) → cond t (write_compartments_rule a row) (write_groups_rule a row && read_compartments_rule a row) ≡ true
          → cond t (write_compartments_rule b row) (write_groups_rule b row && read_compartments_rule b row) ≡ true
      at true e = write-compartment-more e
      at false e = and_mono _ _ _ _ write-group-more (compartment-more a b more.reading row) e

  release-sets-more : release_sets_rule a row ≡ true → release_sets_rule b row ≡ true
  unfolding release_sets_rule
  release-sets-more =
      and_mono _ _ _ _ (and_mono _ _ _ _ (group-more a b more.reading row) (compartment-more a b more.reading row)) write-compartment-more

  write-sets-more : write_sets_rule a row ≡ true → write_sets_rule b row ≡ true
  unfolding write_sets_rule
  write-sets-more e =
      subst (λ (p : Profile). by_profile p (tree_sets_rule b row) (release_sets_rule b row) ≡ true) (sym more.reading.profile) (at a.profile e)
    where
      at : (p : Profile) → by_profile p (tree_sets_rule a row) (release_sets_rule a row) ≡ true
          → by_profile p (tree_sets_rule b row) (release_sets_rule b row) ≡ true
      at Tree e = tree-sets-more e
      at Release e = release-sets-more e

  pub writes_more : write_tests a row ≡ true → write_tests b row ≡ true
  unfolding write_tests compaccess_writes holds_compaccess
  writes_more =
      or_mono _ _ _ _ (and_mono _ _ _ _ write-level-more write-sets-more)
      (and_mono _ _ _ _
      (and_mono _ _ _ _ (and_mono _ _ _ _ (holds_more a b more.reading place_of_compaccess) write-level-more) (λ e. e))
      write-compartment-more)

-- ---- verdicts on a tag
module _ (a b : Rights) where
  all-read-more : MoreReading a b → reads_all a ≡ true → reads_all b ≡ true
  unfolding reads_all
  all-read-more more = or_mono _ _ _ _ (holds_more a b more place_of_read) (holds_more a b more place_of_full)

  all-written-more : MoreReading a b → writes_all a ≡ true → writes_all b ≡ true
  unfolding writes_all
  all-written-more more = holds_more a b more place_of_full

  pub reads-label-more : MoreReading a b → (row : Marks) → reads_label a row ≡ true → reads_label b row ≡ true
  unfolding reads_label
  reads-label-more more row = or_mono _ _ _ _ (all-read-more more) (reads_more a b more row)

  pub writes-label-more : MoreWriting a b → (row : Marks) → writes_label a row ≡ true → writes_label b row ≡ true
  unfolding writes_label
  writes-label-more more row = or_mono _ _ _ _ (all-written-more more.reading) (writes_more a b more row)

  pub may-read-more : MoreReading a b → (im : List ℕ) (tag : ℕ) → may_read im a tag ≡ true → may_read im b tag ≡ true
  unfolding may_read
  may-read-more more im tag =
      cond-mono (known_tag im tag) (reads-label-more more (label_at im (label_of_tag im tag))) (unknown-mono (edition_of im) (all-read-more more))

  pub may-write-more : MoreWriting a b → (im : List ℕ) (tag : ℕ) → may_write im a tag ≡ true → may_write im b tag ≡ true
  unfolding may_write
  may-write-more more im tag =
      cond-mono (known_tag im tag) (writes-label-more more (label_at im (label_of_tag im tag)))
      (unknown-mono (edition_of im) (all-written-more more.reading))

-- ---- COMPACCESS never takes a row away
abbrev pub with_compaccess : Rights → Rights
with_compaccess a = with_privileges (union a.privileges (one place_of_compaccess)) a

same-groups : (p : Profile) (s : ℕ) → GroupsMore p s s
same-groups Tree s = within-refl s
same-groups Release s = within-refl s

module _ (a : Rights) where
  compaccess-more : MoreWriting a (with_compaccess a)
  compaccess-more =
      record {
        reading =
            record {
              level = omega arith;
              compartments = within-refl a.compartments;
              profile = refl;
              groups = same-groups a.profile a.reached_groups;
              privileges = within-union-left a.privileges (one place_of_compaccess);
            };
        minimum = omega arith;
        write_compartments = within-refl a.write_compartments;
        write_groups = within-refl a.write_groups;
      }

  -- it is COMPACCESS that was added
  pub compaccess-held : holds_compaccess (with_compaccess a) ≡ true
  unfolding holds_compaccess
  compaccess-held =
      within_has (one place_of_compaccess) (union a.privileges (one place_of_compaccess))
      (within-union-right a.privileges (one place_of_compaccess)) place_of_compaccess
      (one_has place_of_compaccess place_of_compaccess)

  pub compaccess-reads : (im : List ℕ) (tag : ℕ) → may_read im a tag ≡ true → may_read im (with_compaccess a) tag ≡ true
  compaccess-reads im tag = may-read-more a (with_compaccess a) compaccess-more.reading im tag

  pub compaccess-writes : (im : List ℕ) (tag : ℕ) → may_write im a tag ≡ true → may_write im (with_compaccess a) tag ≡ true
  compaccess-writes im tag = may-write-more a (with_compaccess a) compaccess-more im tag
