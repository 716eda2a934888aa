-- Request R-1: what is lent to the writer, and which fault of it is told. Lent are an edition, a profile, and for each kind a run of bytes: its
-- records in the layouts of the edition, without blocks. The rules of records are the image's own.
use Rattle.std.specs.Prelude.{ℕ, ◌%◌, ◌≤◌, ◌<◌, ◌≡◌, Bool, cond, ◌&&◌, List, [], ◌∷◌, ◌⊎◌, eqb, ltb, length, Result, Ok, Err, ⊤}
use Rattle.fields.specs.Scan.{first_bad, places_where}
use Rattle.refusals.specs.declared.Refusal.TheVariants.{ImageLayout, ParentRing}
use Rattle.refusals.specs.Answers.{Given, refused, refusal_given}
use Rattle.header.specs.declared.edition.Edition.{Edition}
use Rattle.header.specs.declared.profile.Profile.{Profile}
use Rattle.header.specs.declared.counts.Counts.{Counts}
use Rattle.header.specs.declared.layout.Kind.{Kind}
use Rattle.header.specs.declared.layout.Kind.TheVariants.{Component, Label, User}
use Rattle.header.specs.Layout.{edition_named, profile_named, record_size}
use Rattle.header.specs.Header.{known_edition, known_profile, counts_within}
use Rattle.records.specs.Fields.{class_of}
use Rattle.records.specs.Rules.{record_in, run_records, rule_of}
use Rattle.hierarchy.specs.Forest.{first_ring_in}
use Rattle.hierarchy.specs.Below.{forest_in, first_bad_sets}
use Rattle.image.specs.Exactly.{record_number}
use Rattle.writing.specs.declared.answers.LentFault.{LentFault}
use Rattle.writing.specs.declared.lent.LentRecords.{LentRecords}
use Rattle.writing.specs.declared.answers.LentFault.TheVariants.{Layout, Record, Ring}
use Rattle.writing.specs.Laid.{counts_from, Limited}

-- ---- what is lent
-- the bytes of each kind
abbrev pub bytes_by : List ℕ → List ℕ → List ℕ → Kind → List ℕ
bytes_by components labels users Component = components
bytes_by components labels users Label = labels
bytes_by components labels users User = users

-- as the writer's own functions are handed them
abbrev pub bytes_in : LentRecords → Kind → List ℕ
bytes_in lent = bytes_by lent.components.now lent.labels.now lent.users.now

-- the records of each kind
abbrev pub lent_records : Edition → (Kind → List ℕ) → Kind → List (List ℕ)
lent_records edition bytes kind = run_records (record_size edition kind) (bytes kind)

-- how many component records have that class byte. Records of any other class than 1, 2 and 3 are in no count
unfoldable pub class_total : List (List ℕ) → ℕ → ℕ
class_total components class = length (places_where (λ i. eqb (class_of (record_in components i)) class) (length components) 0)

abbrev pub lent_counts : Edition → Profile → List (List ℕ) → Counts
lent_counts edition profile components =
    counts_from edition profile (class_total components 1) (class_total components 2) (class_total components 3)

-- the record has one of the three classes, or none; each component record has one
abbrev pub HasClass : List ℕ → Type 0
HasClass rec = (1 ≤ class_of rec) × (class_of rec ≤ 3)

abbrev pub Unclassed : List ℕ → Type 0
Unclassed rec = HasClass rec → ⊥

abbrev pub Classed : List (List ℕ) → Type 0
Classed components = (i : ℕ) → i < length components → HasClass (record_in components i)

-- ---- 31, asked first: given unless the edition and the profile are known, each length is whole records, and no count is outside its limits.
-- (An edition that is not known is read as edition 1 by `edition_named`, and refused here whatever the rest is.)
abbrev pub whole_rule : Edition → (Kind → List ℕ) → Kind → Bool
whole_rule edition bytes kind = eqb (length (bytes kind) % record_size edition kind) 0

unfoldable pub lent_layout_rule : ℕ → ℕ → (Kind → List ℕ) → Bool
lent_layout_rule edition profile bytes =
    let e = edition_named edition in
    let records = lent_records e bytes in
    known_edition edition && known_profile profile && whole_rule e bytes Component && whole_rule e bytes Label && whole_rule e bytes User
    && counts_within (lent_counts e (profile_named profile) (records Component)) (length (records User)) (length (records Label))

-- the bytes of each kind are whole records
abbrev pub LentParts : Edition → (Kind → List ℕ) → Type 0
LentParts edition bytes = (kind : Kind) → length (bytes kind) % record_size edition kind ≡ 0

-- what that rule says
pub record LentWhole (edition profile : ℕ) (bytes : Kind → List ℕ) : Type 0 where
  pub edition_known : (edition ≡ 1) ⊎ (edition ≡ 2)
  pub profile_known : profile ≤ 1
  pub whole : LentParts (edition_named edition) bytes
  pub limited : Limited
      (lent_counts (edition_named edition) (profile_named profile) (lent_records (edition_named edition) bytes Component))
      (length (lent_records (edition_named edition) bytes User))
      (length (lent_records (edition_named edition) bytes Label))

-- ---- no fault, or the fault that is told
abbrev pub LentCheck : Type 0
LentCheck = Result ⊤ LentFault

-- ---- 32 to 35: the rules of the image over lists of records
-- the lowest record of a kind that breaks a rule; the number of records where none does. A record of no counted class has another class than the
-- one expected at its place, so it breaks a rule; past all counts class 3 is expected, and some record up to the first place there is at fault
abbrev pub first_bad_of : Counts → (Kind → List (List ℕ)) → Kind → ℕ
first_bad_of n records kind = first_bad (rule_of kind n (records kind)) (length (records kind)) 0

-- the fault at that place where the place is below `count`; else what is told after it
abbrev pub fault_at : ℕ → ℕ → (ℕ → LentFault) → LentCheck → LentCheck
fault_at place count fault after = cond (ltb place count) (Err (fault place)) after

-- of a kind: its lowest record that breaks a rule
abbrev pub kind_check : Counts → Kind → List (List ℕ) → LentCheck
kind_check n kind records = fault_at (first_bad (rule_of kind n records) (length records) 0) (length records) (Record kind) (Ok tt)

-- of the groups: the lowest whose parents never end, and after that the lowest user whose sets of groups break their rule
abbrev pub groups_check : Counts → List (List ℕ) → List (List ℕ) → LentCheck
groups_check n components users =
    fault_at (first_ring_in (forest_in n components)) n.groups Ring
    (fault_at (first_bad_sets n components users) (length users) (Record User) (Ok tt))

-- the kinds in the image's order, each by its lowest record, and the groups after all records
unfoldable pub records_check : Counts → (Kind → List (List ℕ)) → LentCheck
records_check n records =
    fault_at (first_bad_of n records Component) (length (records Component)) (Record Component)
    (fault_at (first_bad_of n records Label) (length (records Label)) (Record Label)
    (fault_at (first_bad_of n records User) (length (records User)) (Record User)
    (groups_check n (records Component) (records User))))

unfoldable pub lent_check : ℕ → ℕ → (Kind → List ℕ) → LentCheck
lent_check edition profile bytes =
    let records = lent_records (edition_named edition) bytes in
    cond (lent_layout_rule edition profile bytes)
    (records_check (lent_counts (edition_named edition) (profile_named profile) (records Component)) records) (Err Layout)

-- ---- what is given back for a fault: the image's number for it, and the place of the record in its run of bytes or of the group
abbrev pub fault_given : LentFault → Given
fault_given Layout = refusal_given ImageLayout
fault_given (Record kind i) = refused (record_number kind) (i ∷ [])
fault_given (Ring g) = refusal_given (ParentRing g)
