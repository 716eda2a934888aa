-- The rules for a new session label and a new row label, and refusal 19, which asks both of them of a lent session.
use Rattle.std.specs.Prelude.{ℕ, Bool, true, ◌&&◌, List, leb, ltb, Ok}
use Rattle.refusals.specs.declared.Refusal.TheVariants.{LevelNotAllowed, CompartmentsNotAllowed, GroupsNotAllowed, RowLabelOutside}
use Rattle.sets.specs.Sets.{within, all_below}
use Rattle.header.specs.Layout.{edition_of, profile_of, by_profile, groups, users, user_record}
use Rattle.records.specs.Fields.{maximum_level, minimum_level, read_compartments, read_groups}
use Rattle.hierarchy.specs.Below.{below}
use Rattle.refusals.specs.Answers.{or_refuse, allowed, Checked}
use Rattle.labels.specs.Label.{Marks}
use Rattle.access.specs.Rights.{Rights, between, rights_at}

-- ---- a row label beside a session
-- its groups lie in the session's write groups; in the release profile they exist and contain the session's groups
abbrev pub row_groups_rule : Rights → ℕ → Bool
row_groups_rule rights groups =
    within groups rights.write_groups && by_profile rights.profile true (within rights.reached_groups groups)

-- the row label has level ≤ the session's, compartments inside the session's write compartments, and groups by `row_groups_rule`
unfoldable pub row_inside : Rights → Marks → Bool
row_inside rights row =
    leb row.level rights.level && within row.compartments rights.write_compartments && row_groups_rule rights row.groups

-- ---- a new session label
-- its groups lie in below(read); in the release profile they exist and contain the read groups
unfoldable pub session_groups_rule : List ℕ → List ℕ → ℕ → Bool
session_groups_rule im rec set =
    let read = read_groups (edition_of im) rec in
    by_profile (profile_of im) (within set (below im read)) (within set (all_below (groups im)) && within read set)

-- minimum ≤ level ≤ maximum (8); compartments in read (9); groups by `session_groups_rule` (10); and the present row label stands beside
-- the new session label as the rules of row labels ask (11)
unfoldable pub session_label_answer : List ℕ → ℕ → Marks → Marks → Checked
session_label_answer im u new row =
    let rec = user_record im u in
    or_refuse (between (minimum_level rec) (maximum_level rec) new.level) LevelNotAllowed
    (or_refuse (within new.compartments (read_compartments rec)) CompartmentsNotAllowed
    (or_refuse (session_groups_rule im rec new.groups) GroupsNotAllowed
    (or_refuse (row_inside (rights_at im u new) row) RowLabelOutside (Ok tt))))

-- ---- a new row label
-- minimum ≤ level ≤ session level (8); compartments (9) inside the session's write compartments, groups (10) by `row_groups_rule`
unfoldable pub row_label_answer : Rights → Marks → Checked
row_label_answer rights new =
    or_refuse (between rights.minimum rights.level new.level) LevelNotAllowed
    (or_refuse (within new.compartments rights.write_compartments) CompartmentsNotAllowed
    (or_refuse (row_groups_rule rights new.groups) GroupsNotAllowed (Ok tt)))

-- ---- 19
-- the user's place exists and both labels meet the two lists
unfoldable pub session_rule : List ℕ → ℕ → Marks → Marks → Bool
session_rule im u label row =
    ltb u (users im) && allowed (session_label_answer im u label row) && allowed (row_label_answer (rights_at im u label) row)
