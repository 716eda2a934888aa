-- Reading label text: the shape of the whole text first, then its names from the left.
use Rattle.std.specs.Prelude.{ℕ, ◌+◌, Bool, cond, List, [], ◌∷◌, ltb, length, Result, Ok, Err}
use Rattle.fields.specs.Names.{same_bytes, folded_name}
use Rattle.fields.specs.Scan.{first_where}
use Rattle.sets.specs.Sets.{has, none, one, union}
use Rattle.refusals.specs.declared.Refusal.{Refusal}
use Rattle.refusals.specs.declared.Refusal.TheVariants.{TextShape, UnknownName, RepeatedName}
use Rattle.refusals.specs.Answers.{on_checked}
use Rattle.header.specs.Layout as layout
use Rattle.header.specs.Layout.{levels, compartments, groups, component_record, counts_of}
use Rattle.header.specs.Limits.{limits_of}
use Rattle.records.specs.Fields.{component_name}
use Rattle.image.specs.Check.{check_of}
use Rattle.image.specs.Lookup.{component_index}
use Rattle.labels.specs.declared.answers.Reason.{Reason}
use Rattle.labels.specs.declared.answers.Reason.TheVariants.{Shape, Unknown, Repeated}
use Rattle.labels.specs.declared.label.Label.{Label}
use Rattle.labels.specs.Label.{Marks, marks, marks_of}
use Rattle.labels.specs.Text.{comma, colon, split, shape_rule}

-- ---- names
-- how a name in a text matches a component's name: its small letters are taken as capitals (request R-9)
unfoldable pub matches : List ℕ → List ℕ → Bool
matches component name = same_bytes component (folded_name name)

-- how many components a class has
abbrev pub class_count : List ℕ → ℕ → ℕ
class_count im class = layout.class_count (counts_of im) class

-- the place in its class, 1 level, 2 compartment, 3 group, of the component that a name matches; the class's count where none does
unfoldable pub place_of_name : List ℕ → ℕ → List ℕ → ℕ
place_of_name im class name =
    first_where (λ p. matches (component_name (component_record im (component_index im class p))) name) (class_count im class) 0

-- ---- what reading gives: a set or a label, or why the text is refused
pub data Reading (A : Type 0) : Type 0 where
  read : A → Reading A
  refused : Reason → Reading A

-- 6, a name that its class lacks, and 7, a name that came before in its list; the name stands at the offset
abbrev pub unknown : {A : Type 0} → ℕ → Reading A
unknown offset = refused (Unknown offset)

abbrev pub repeated : {A : Type 0} → ℕ → Reading A
repeated offset = refused (Repeated offset)

-- reading goes on only with what was read
abbrev pub then_read : {A B : Type 0} → Reading A → (A → Reading B) → Reading B
then_read (read x) next = next x
then_read (refused reason) next = refused reason

-- ---- a list
-- the names of a list from the left, with the set of those before them; the next one stands at the offset
unfoldable pub read_names : List ℕ → ℕ → ℕ → ℕ → List (List ℕ) → Reading ℕ
read_names im class offset set [] = read set
read_names im class offset set (name ∷ rest) =
    let p = place_of_name im class name in
    let later = read_names im class (offset + length name + 1) (union set (one p)) rest in
    cond (ltb p (class_count im class)) (cond (has set p) (repeated offset) later) (unknown offset)

-- the names of a list; an empty part is the empty set
abbrev pub read_list : List ℕ → ℕ → ℕ → List ℕ → Reading ℕ
read_list im class offset [] = read none
read_list im class offset (x ∷ xs) = read_names im class offset none (split comma (x ∷ xs))

-- ---- a label
-- after the compartments: groups, or none; the next part begins at the offset
abbrev pub groups_after : List ℕ → ℕ → ℕ → ℕ → List (List ℕ) → Reading Marks
groups_after im level compartments offset [] = read (marks level compartments none)
groups_after im level compartments offset (part ∷ more) =
    then_read (read_list im 3 offset part) (λ g. read (marks level compartments g))

-- after the level: compartments, or none; then groups
abbrev pub read_sets : List ℕ → ℕ → ℕ → List (List ℕ) → Reading Marks
read_sets im level offset [] = groups_after im level none offset []
read_sets im level offset (part ∷ more) =
    then_read (read_list im 2 offset part) (λ c. groups_after im level c (offset + length part + 1) more)

-- the level counts as a name at offset 0
abbrev pub read_parts : List ℕ → List (List ℕ) → Reading Marks
read_parts im [] = refused Shape
read_parts im (level ∷ rest) =
    let p = place_of_name im 1 level in
    cond (ltb p (levels im)) (read_sets im p (length level + 1) rest) (unknown 0)

-- 5; then the leftmost name refused by 6 or 7
abbrev pub read_text : List ℕ → List ℕ → Reading Marks
read_text im text = cond (shape_rule (limits_of im).text text) (read_parts im (split colon text)) (refused Shape)

-- the refusal that tells a reason; two of the three carry an offset
abbrev pub refusal_of : Reason → Refusal
refusal_of Shape = TextShape
refusal_of (Unknown offset) = UnknownName offset
refusal_of (Repeated offset) = RepeatedName offset

-- ---- the answer of `parse`: what the text gives, or the refusal of the image
abbrev pub Parsing : Type 0
Parsing = Result Marks Refusal

abbrev pub of_text : Reading Marks → Parsing
of_text (read m) = Ok m
of_text (refused reason) = Err (refusal_of reason)

-- 1, 2, 31 to 35 before all others
unfoldable pub parse_of : List ℕ → List ℕ → Parsing
parse_of im text = on_checked (check_of im) Err (of_text (read_text im text))

-- what the answers of the code stand for
abbrev pub read_of : Result Label Reason → Reading Marks
read_of (Ok l) = read (marks_of l)
read_of (Err reason) = refused reason

abbrev pub parsing_of : Result Label Refusal → Parsing
parsing_of (Ok l) = Ok (marks_of l)
parsing_of (Err r) = Err r
