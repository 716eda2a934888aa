-- The forest of the groups among component records, and the rules of a user's sets of groups. They are rules of lists of records, by the
-- counts; an image's are these of the lists that it holds. A parent that is no group is none: the rules of components leave no other
-- one in an accepted image.
use Rattle.std.specs.Prelude.{ℕ, ◌+◌, ◌≤◌, ◌≡◌, Bool, ◌&&◌, List, eqb, length}
use Rattle.fields.specs.Scan.{first_bad}
use Rattle.sets.specs.Sets.{within}
use Rattle.sets.specs.Groups.{places_of}
use Rattle.header.specs.declared.edition.Edition.{Edition}
use Rattle.header.specs.declared.profile.Profile.{Profile}
use Rattle.header.specs.declared.layout.Kind.TheVariants.{Component, User}
use Rattle.header.specs.declared.counts.Counts.{Counts}
use Rattle.header.specs.Layout.{profile_of, by_profile, counts_of, groups, class_first, records_of}
use Rattle.records.specs.declared.users.GroupSets.{GroupSets}
use Rattle.records.specs.Fields.{parent_of, read_groups, write_groups, default_groups, row_groups}
use Rattle.records.specs.Rules.{record_in}
use Rattle.hierarchy.specs.Forest.{Forest, has_parent_in, ends_in, AllEndIn, first_ring_in, AboveIn, below_in, ParentsIn, TabledIn}

-- the parent's place of group g, by its record among the components
unfoldable pub parent_in : Counts → List (List ℕ) → ℕ → ℕ
parent_in n components g = parent_of n.edition (record_in components (class_first n 3 + g))

-- the forest of these groups
abbrev pub forest_in : Counts → List (List ℕ) → Forest
forest_in n components = record { count = n.groups; parent = parent_in n components }

-- ---- a user's sets of groups among each other
-- write and default groups lie in below(read), the row groups in below(default) and in below(write)
unfoldable pub below_sets : Forest → (read write default row : ℕ) → Bool
below_sets f read write default row =
    within write (below_in f read) && within default (below_in f read) && within row (below_in f default) && within row (below_in f write)

-- in the release profile default groups contain the read groups and row groups the default groups, and write groups are the read groups
unfoldable pub release_sets : (read write default row : ℕ) → Bool
release_sets read write default row = within read default && within default row && eqb write read

-- by the profile
abbrev pub sets_rule : Profile → Forest → (read write default row : ℕ) → Bool
sets_rule profile f read write default row = by_profile profile (below_sets f read write default row) (release_sets read write default row)

-- such a rule of the four sets as code has them
abbrev pub of_sets : (ℕ → ℕ → ℕ → ℕ → Bool) → GroupSets → Bool
of_sets rule sets = rule (places_of sets.read) (places_of sets.write) (places_of sets.default) (places_of sets.row)

-- by the profile, of the sets that a user's record holds
unfoldable pub record_sets : Profile → Forest → Edition → List ℕ → Bool
record_sets profile f edition rec =
    sets_rule profile f (read_groups edition rec) (write_groups edition rec) (default_groups edition rec) (row_groups edition rec)

unfoldable pub group_sets_in : Counts → List (List ℕ) → List ℕ → Bool
group_sets_in n components rec = record_sets n.profile (forest_in n components) n.edition rec

-- the lowest user whose groups break that rule; the number of users where there is none
unfoldable pub first_bad_sets : Counts → List (List ℕ) → List (List ℕ) → ℕ
first_bad_sets n components users = first_bad (λ u. group_sets_in n components (record_in users u)) (length users) 0

-- ---- of an image
abbrev pub forest_of : List ℕ → Forest
forest_of im = forest_in (counts_of im) (records_of im Component)

-- the parent's place of group g, and whether it has one
abbrev pub parent : List ℕ → ℕ → ℕ
parent im g = (forest_of im).parent g

abbrev pub has_parent : List ℕ → ℕ → Bool
has_parent im g = has_parent_in (forest_of im) g

-- following parents from g reaches "none"
abbrev pub ends_rule : List ℕ → ℕ → Bool
ends_rule im g = ends_in (forest_of im) g

abbrev pub AllEnd : List ℕ → Type 0
AllEnd im = AllEndIn (forest_of im)

-- the lowest group whose parents never end; the number of groups where there is none
abbrev pub first_ring : List ℕ → ℕ
first_ring im = first_ring_in (forest_of im)

-- p is g or an ancestor of g, at any distance
abbrev pub Above : List ℕ → ℕ → ℕ → Type 0
Above im g p = AboveIn (forest_of im) g p

-- below(s)
abbrev pub below : List ℕ → ℕ → ℕ
below im s = below_in (forest_of im) s

-- what groups reach: below(s); in the release profile, where no group has a parent, s itself
unfoldable pub reach : List ℕ → ℕ → ℕ
reach im s = by_profile (profile_of im) (below im s) s

-- the sets of the user at place u among each other
abbrev pub group_sets_rule : List ℕ → ℕ → Bool
group_sets_rule im u = group_sets_in (counts_of im) (records_of im Component) (record_in (records_of im User) u)

-- the lowest user whose groups break that rule; the number of users where there is none
abbrev pub first_bad_below : List ℕ → ℕ
first_bad_below im = first_bad_sets (counts_of im) (records_of im Component) (records_of im User)

-- the table holds the parent's place of every group
abbrev pub Parents : List ℕ → List ℕ → Type 0
Parents im table = ParentsIn (forest_of im) table

-- the same of an image whose parents all end, with an order of its groups
abbrev pub Tabled : List ℕ → List ℕ → Type 0
Tabled im table = TabledIn (forest_of im) table

-- of the search for the lowest group whose parents never end, which fills the table: r is that group; where there is none, the table is filled
pub record RingFound (im table : List ℕ) (r : ℕ) : Type 0 where
  pub ring : r ≡ first_ring im
  pub filled : groups im ≤ r → Tabled im table
