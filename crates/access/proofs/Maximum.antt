-- What a session that 19 does not refuse reads lies inside what the maximum read label reads. Assumes nothing.
use Prim.Native.Nat.{ℕ}
use mathlib.Core.Path.{◌≡◌, refl}
use mathlib.Core.Bool.{true, ◌&&◌}
use mathlib.Core.List.{List}
use Rattle.fields.proofs.Both.{parts}
use Rattle.sets.specs.Sets.{within, all_below}
use Rattle.sets.proofs.Within.{within-refl}
use Rattle.header.specs.declared.profile.Profile.{Profile}
use Rattle.header.specs.declared.profile.Profile.TheVariants.{Tree, Release}
use Rattle.header.specs.Layout.{edition_of, profile_of, by_profile, groups, user_record}
use Rattle.hierarchy.specs.Below.{below, reach}
use Rattle.records.specs.Fields.{privileges, read_groups}
use Rattle.image.specs.Check.{IsAccepted}
use Rattle.image.proofs.Policy.{below-within}
use Rattle.labels.specs.Label.{Marks}
use Rattle.access.specs.Rights.{rights_at, maximum_read_label}
use Rattle.access.specs.NewLabels.{session_groups_rule, session_rule}
use Rattle.access.specs.Verdicts.{may_read, readable_at_maximum}
use Rattle.access.proofs.Answers.{SessionLabelKept, session-means}
use Rattle.access.proofs.More.{GroupsMore, MoreReading, may-read-more}

module _ (im : List ℕ) (acc : IsAccepted im) (u : ℕ) (label row : Marks) where
  -- the session's groups lie below the read groups; in the release profile they contain them
  groups-maximum : session_groups_rule im (user_record im u) label.groups ≡ true
      → GroupsMore (profile_of im) (reach im label.groups) (reach im (read_groups (edition_of im) (user_record im u)))
  unfolding session_groups_rule reach
  groups-maximum = at (profile_of im)
    where
      read : ℕ
      read = read_groups (edition_of im) (user_record im u)

      at : (p : Profile) → by_profile p (within label.groups (below im read)) (within label.groups (all_below (groups im)) && within read label.groups) ≡ true
          → GroupsMore p (by_profile p (below im label.groups) label.groups) (by_profile p (below im read) read)
      at Tree e = below-within im acc label.groups read e
      at Release e = (parts (within label.groups (all_below (groups im))) (within read label.groups) e).1

  within-maximum : SessionLabelKept im u label row → MoreReading (rights_at im u label) (rights_at im u (maximum_read_label im u))
  unfolding rights_at maximum_read_label
  within-maximum k =
      record {
        level = k.maximum;
        compartments = k.compartments;
        profile = refl;
        groups = groups-maximum k.groups;
        privileges = within-refl (privileges (user_record im u));
      }

  pub maximum-reads : session_rule im u label row ≡ true → (tag : ℕ) → may_read im (rights_at im u label) tag ≡ true
      → readable_at_maximum im u tag ≡ true
  unfolding readable_at_maximum
  maximum-reads e = may-read-more _ _ (within-maximum (session-means im u label row e).session_label) im
