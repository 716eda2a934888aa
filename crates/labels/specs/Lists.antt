-- What the readers of names and lists give, in terms of the definitions of Parse.antt.
use Rattle.std.specs.Prelude.{ℕ, suc, ◌+◌, Bool, cond, not, List, [], ◌∷◌, eqb, ltb, length, drop, Option, Some, None, Result, Ok, Err}
use Rattle.fields.specs.Bytes.{byte_at}
use Rattle.sets.specs.declared.groups.Groups.{Groups}
use Rattle.sets.specs.Groups.{places_of}
use Rattle.labels.specs.Text.{split}
use Rattle.labels.specs.declared.lists.Names.{Names}
use Rattle.labels.specs.declared.lists.Names.TheVariants as names
use Rattle.labels.specs.declared.answers.Reason.{Reason}
use Rattle.labels.specs.Parse.{class_count, place_of_name, Reading, read, refused, unknown, repeated}

-- the place of a name, if its class has it
unfoldable pub found_of : List ℕ → ℕ → List ℕ → Option ℕ
found_of im class name = let p = place_of_name im class name in cond (ltb p (class_count im class)) (Some p) None

-- how many bytes stand before the first mark, or before the end
unfoldable pub until_mark : ℕ → List ℕ → ℕ
until_mark mark [] = 0
until_mark mark (x ∷ xs) = cond (eqb x mark) 0 (suc (until_mark mark xs))

-- the byte at place i is not the mark
abbrev pub lacks_at : ℕ → List ℕ → ℕ → Bool
lacks_at mark text i = not (eqb (byte_at text i) mark)

-- the parts after one that ended at a mark, or at the end
abbrev pub after_mark : ℕ → List ℕ → ℕ → List (List ℕ)
after_mark mark text at = cond (ltb at (length text)) (split mark (drop (at + 1) text)) []

-- what the answers of the code stand for; while names are read, the set of their places is kept beside the answer
abbrev pub names_of : Names → ℕ → Reading ℕ
names_of names.Read set = read set
names_of (names.Unknown offset) set = unknown offset
names_of (names.Repeated offset) set = repeated offset

abbrev pub list_of : Result Groups Reason → Reading ℕ
list_of (Ok g) = read (places_of g)
list_of (Err reason) = refused reason
