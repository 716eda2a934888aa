-- The group test, asked of a row's label by reading, in the release profile by writing too, and of the second label by dominance.
use Rattle.std.specs.Prelude.{ℕ, Bool, ◌||◌}
use Rattle.sets.specs.Sets.{empty, within, meets}
use Rattle.header.specs.declared.profile.Profile.{Profile}
use Rattle.header.specs.declared.profile.Profile.TheVariants.{Tree, Release}

-- no groups, or one of them is among those that are reached; in the release profile: all that are reached are among them
unfoldable pub group_test : Profile → ℕ → ℕ → Bool
group_test Tree reached groups = empty groups || meets groups reached
group_test Release reached groups = within reached groups
