-- What the rules of records ask of the header, as the value that code works out once.
use Rattle.std.specs.Prelude.{◌≡◌, ◌≤◌}
use Rattle.sets.specs.Sets.{all_below}
use Rattle.sets.specs.Groups.{width, places_of}
use Rattle.records.specs.declared.existing.Existing.{Existing}

-- the compartments and the groups that exist are those that its counts name; a word holds the former, a set of groups the latter
pub record Exist (e : Existing) : Type 0 where
  pub few : e.counts.compartments ≤ 64
  pub few_groups : e.counts.groups ≤ width
  pub compartments : e.compartments ≡ all_below e.counts.compartments
  pub groups : places_of e.groups ≡ all_below e.counts.groups
