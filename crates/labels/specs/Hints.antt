-- Where a class's names probably stand: what is known of a place that was found so.
use Rattle.std.specs.Prelude.{ℕ, ◌<◌, ◌≡◌, true, List, Option, Some, None}
use Rattle.header.specs.Layout.{component_record}
use Rattle.records.specs.Fields.{component_name}
use Rattle.image.specs.Lookup.{component_index}
use Rattle.labels.specs.Parse.{matches, class_count}

-- the bytes that hold the hints of a class
abbrev pub hints_room : ℕ
hints_room = 1024

-- five bits of each of eight bytes
abbrev pub letters_of8 : ℕ
letters_of8 = 2242545357980376863

-- the component at the place, if the class has one there, has the name
abbrev pub HasName : List ℕ → ℕ → List ℕ → ℕ → Type 0
HasName im class name p = p < class_count im class → matches (component_name (component_record im (component_index im class p))) name ≡ true

-- what hints tell of a name: a place of the class whose component has it; where they tell none, nothing is claimed
abbrev pub ToldOf : List ℕ → ℕ → List ℕ → Option ℕ → Type 0
ToldOf im class name (Some p) = (p < class_count im class) × HasName im class name p
ToldOf im class name None = Unit {0}
