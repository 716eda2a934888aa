-- Printing a label: its level's name, then its lists with places rising; empty tails are dropped.
use Rattle.std.specs.Prelude.{ℕ, zero, suc, ◌≤◌, ◌<◌, ◌≡◌, true, cond, List, [], ◌∷◌, ◌++◌, leb, length, drop, Ok, Err}
use Rattle.buffers.specs.Pasting.{at_front}
use Rattle.sets.specs.Sets.{has, empty}
use Rattle.sets.specs.Groups.{width}
use Rattle.refusals.specs.declared.Refusal.{Refusal}
use Rattle.refusals.specs.declared.Refusal.TheVariants.{NoComponent, Room}
use Rattle.header.specs.Layout.{compartments, groups, component_record}
use Rattle.records.specs.Fields.{component_name}
use Rattle.refusals.specs.Answers.{on_checked, or_refuse, Amount, Checked}
use Rattle.image.specs.Check.{check_of, IsAccepted}
use Rattle.image.specs.Lookup.{component_index, has_component}
use Rattle.labels.specs.Label.{Marks, label_exists}
use Rattle.labels.specs.Text.{comma, colon}

-- the name of the component of that class at that place
abbrev pub name_at : List ℕ → ℕ → ℕ → List ℕ
name_at im class place = component_name (component_record im (component_index im class place))

-- what a place adds to a list: where the set has it, a comma and the component's name
unfoldable pub entry_at : List ℕ → ℕ → ℕ → ℕ → List ℕ
entry_at im class set k = cond (has set k) (comma ∷ name_at im class k) []

-- the names of those of the n places from k on that the set has, a comma before each
unfoldable pub listed : List ℕ → ℕ → ℕ → ℕ → ℕ → List ℕ
listed im class set zero k = []
listed im class set (suc n) k = entry_at im class set k ++ listed im class set n (suc k)

-- a list: one name, or one name, a comma and a list; count is the number of components of the class
unfoldable pub list_text : List ℕ → ℕ → ℕ → ℕ → List ℕ
list_text im class count set = drop 1 (listed im class set count 0)

-- a colon and a list
unfoldable pub section : List ℕ → ℕ → ℕ → ℕ → List ℕ
section im class count set = colon ∷ list_text im class count set

-- LEVEL, LEVEL:list, LEVEL:list:list or LEVEL::list
unfoldable pub text_of : List ℕ → Marks → List ℕ
text_of im m =
    let first = section im 2 (compartments im) m.compartments in
    let second = section im 3 (groups im) m.groups in
    name_at im 1 m.level ++ cond (empty m.groups) (cond (empty m.compartments) [] first) (first ++ second)

-- ---- what print answers, with the buffer after it
-- a refusal changes nothing
abbrev pub unprinted : List ℕ → Refusal → Amount × List ℕ
unprinted buffer r = (Err r, buffer)

-- where the image is accepted: 18; then 13 where the text is longer than the buffer
abbrev pub printable : List ℕ → Marks → List ℕ → Checked
printable im m buffer =
    or_refuse (label_exists im m) NoComponent (or_refuse (leb (length (text_of im m)) (length buffer)) Room (Ok tt))

-- a print that is done reports its length and changes only its own bytes
unfoldable pub accepted_answer : List ℕ → Marks → List ℕ → Amount × List ℕ
accepted_answer im m buffer =
    on_checked (printable im m buffer) (unprinted buffer) (Ok (length (text_of im m)), at_front (text_of im m) buffer)

-- 1, 2, 31 to 35 before all others
unfoldable pub print_of : List ℕ → Marks → List ℕ → Amount × List ℕ
print_of im m buffer = on_checked (check_of im) (unprinted buffer) (accepted_answer im m buffer)

-- ---- what the parts of print do
-- what code may take for granted where it lists names: the image is accepted and has the first places of the class, no more than a set has room for
pub record Named (im : List ℕ) (class count : ℕ) : Type 0 where
  pub accepted : IsAccepted im
  pub present : (p : ℕ) → p < count → has_component im class p ≡ true
  pub few : count ≤ width
