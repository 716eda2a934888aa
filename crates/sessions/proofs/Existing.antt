-- Both labels of an accepted session name only components that the policy has. Assumes nothing.
use Rattle.std.proofs.Common.{Ok}
use Prim.Native.Nat.{ℕ, ◌^◌, ◌<◌}
use mathlib.Core.Path.{◌≡◌}
use mathlib.Core.Bool.{true, ◌&&◌}
use mathlib.Core.List.{List}
use native.Mathlib.Omega.{arith}
use Rattle.fields.proofs.Both.{parts}
use Rattle.sets.specs.Sets.{intersection, within, all_below}
use Rattle.sets.proofs.Bounds.{within-below, part-below, intersection-below}
use Rattle.header.specs.declared.profile.Profile.{Profile}
use Rattle.header.specs.declared.profile.Profile.TheVariants.{Tree, Release}
use Rattle.header.specs.Layout.{edition_of, profile_of, by_profile, levels, compartments, groups, user_record, counts_of}
use Rattle.records.specs.Fields.{read_compartments, write_compartments, read_groups, write_groups}
use Rattle.records.proofs.MeaningLabels.{exist-holds}
use Rattle.records.proofs.MeaningUsers.{UserKept}
use Rattle.labels.proofs.Existing.{means-exists}
use Rattle.hierarchy.specs.Below.{forest_of, below, reach}
use Rattle.hierarchy.proofs.Under.{below-limit}
use Rattle.image.proofs.Policy.{user-kept}
use Rattle.labels.specs.Label.{label_exists}
use Rattle.access.specs.Rights.{rights_at, write_compartments_of, write_groups_of}
use Rattle.access.specs.NewLabels.{session_groups_rule}
use Rattle.access.proofs.Answers.{SessionLabelKept}
use Rattle.sessions.specs.Session.{SessionMarks, lent_answer}
use Rattle.sessions.proofs.Accepting.{lent-accepted, lent-means, lent-user}

module _ (im : List ℕ) (s : SessionMarks) (lent : lent_answer im s ≡ Ok tt) where
  -- the user's record names only what exists, and the session keeps its rules
  user : UserKept (counts_of im) (user_record im s.user)
  user = user-kept im (lent-accepted im s lent) s.user (lent-user im s lent)

  kept : SessionLabelKept im s.user s.label s.row
  kept = (lent-means im s lent).session_label

  -- the level is at most the user's maximum; compartments lie in those that the user reads, groups lie below the read groups or, in the release profile, exist
  level-exists : s.label.level < levels im
  level-exists = omega (arith, kept.maximum, user.levels_kept.maximum_exists)

  compartments-exist : s.label.compartments < 2 ^ compartments im
  compartments-exist =
      let read = read_compartments (user_record im s.user) in
      part-below s.label.compartments read (compartments im) kept.compartments
      (within-below read (compartments im) (exist-holds read (compartments im) user.compartments_kept.read_exist))

  groups-exist : s.label.groups < 2 ^ groups im
  unfolding session_groups_rule
  groups-exist = at (profile_of im) kept.groups
    where
      set : ℕ
      set = s.label.groups

      read : ℕ
      read = read_groups (edition_of im) (user_record im s.user)

      at : (p : Profile) → by_profile p (within set (below im read)) (within set (all_below (groups im)) && within read set) ≡ true → set < 2 ^ groups im
      at Tree e = part-below set (below im read) (groups im) e (below-limit (forest_of im) read)
      at Release e = within-below set (groups im) (parts (within set (all_below (groups im))) (within read set) e).0

  -- the row label's level and compartments lie in the session's, its groups in the write groups or, in the release profile, among all
  row-level-exists : s.row.level < levels im
  unfolding rights_at
  row-level-exists = omega (arith, kept.inside.level, level-exists)

  row-compartments-exist : s.row.compartments < 2 ^ compartments im
  unfolding rights_at write_compartments_of
  row-compartments-exist =
      let written = write_compartments (user_record im s.user) in
      part-below s.row.compartments (intersection s.label.compartments written) (compartments im) kept.inside.compartments
      (intersection-below s.label.compartments written (compartments im) compartments-exist)

  row-groups-exist : s.row.groups < 2 ^ groups im
  unfolding rights_at write_groups_of reach
  row-groups-exist = at (profile_of im) kept.inside.groups
    where
      set : ℕ
      set = s.row.groups

      label : ℕ
      label = s.label.groups

      write : ℕ
      write = write_groups (edition_of im) (user_record im s.user)

      at : (p : Profile)
          → (within set (by_profile p (intersection (by_profile p (below im label) label) (by_profile p (below im write) write)) (all_below (groups im)))
          && by_profile p true (within (by_profile p (below im label) label) set)) ≡ true → set < 2 ^ groups im
      at Tree e =
          part-below set (intersection (below im label) (below im write)) (groups im)
          (parts (within set (intersection (below im label) (below im write))) true e).0
          (intersection-below (below im label) (below im write) (groups im) (below-limit (forest_of im) label))
      at Release e = within-below set (groups im) (parts (within set (all_below (groups im))) (within label set) e).0

  pub session-labels-exist : (label_exists im s.label ≡ true) × (label_exists im s.row ≡ true)
  session-labels-exist = (
    means-exists im s.label (record { level = level-exists; compartments = compartments-exist; groups = groups-exist }),
    means-exists im s.row (record { level = row-level-exists; compartments = row-compartments-exist; groups = row-groups-exist }),
  )
