-- The table "Numbers given back" of the scope document, with 31 to 35 of request R-2 in place of 3, 20 of request R-4, 36 of
-- request R-12 and 37 of request R-11: each refusal's number, and the values that are returned with it.
-- Assumes nothing.
use Rattle.std.specs.Prelude.{ℕ, ◌+◌, ◌*◌, List, [], ◌∷◌}
use Rattle.refusals.specs.declared.Refusal.{Refusal}
use Rattle.refusals.specs.declared.Refusal.TheVariants.{ImageLength, BlockCheck, ImageLayout, ComponentRecord, LabelRecord, UserRecord, ParentRing, NoUser, TextShape, UnknownName, RepeatedName}
use Rattle.refusals.specs.declared.Refusal.TheVariants.{LevelNotAllowed, CompartmentsNotAllowed, GroupsNotAllowed, RowLabelOutside, TableShape, Room}
use Rattle.refusals.specs.declared.Refusal.TheVariants.{NoRow, RowNotWritable, PayloadLength, MergeLetters, NoComponent, SessionRules, WrongMap, CompaccessHolders, MoveLimits}

-- the table's first column
abbrev pub number_of : Refusal → ℕ
number_of ImageLength = 1
number_of (BlockCheck block) = 2
number_of ImageLayout = 31
number_of (ComponentRecord block slot) = 32
number_of (LabelRecord block slot) = 33
number_of (UserRecord block slot) = 34
number_of (ParentRing group) = 35
number_of NoUser = 4
number_of TextShape = 5
number_of (UnknownName offset) = 6
number_of (RepeatedName offset) = 7
number_of LevelNotAllowed = 8
number_of CompartmentsNotAllowed = 9
number_of GroupsNotAllowed = 10
number_of RowLabelOutside = 11
number_of TableShape = 12
number_of Room = 13
number_of NoRow = 14
number_of RowNotWritable = 15
number_of PayloadLength = 16
number_of MergeLetters = 17
number_of NoComponent = 18
number_of SessionRules = 19
number_of WrongMap = 20
number_of (CompaccessHolders count) = 36
number_of MoveLimits = 37

-- the values returned with the number: the table's third column, for 32 to 35 what request R-2 says, and for 36 how many hold COMPACCESS; `slot` is
-- the record's place in its block
abbrev pub values_of : Refusal → List ℕ
values_of ImageLength = []
values_of (BlockCheck block) = block ∷ []
values_of ImageLayout = []
values_of (ComponentRecord block slot) = block ∷ slot ∷ []
values_of (LabelRecord block slot) = block ∷ slot ∷ []
values_of (UserRecord block slot) = block ∷ slot ∷ []
values_of (ParentRing group) = group ∷ []
values_of NoUser = []
values_of TextShape = []
values_of (UnknownName offset) = offset ∷ []
values_of (RepeatedName offset) = offset ∷ []
values_of LevelNotAllowed = []
values_of CompartmentsNotAllowed = []
values_of GroupsNotAllowed = []
values_of RowLabelOutside = []
values_of TableShape = []
values_of Room = []
values_of NoRow = []
values_of RowNotWritable = []
values_of PayloadLength = []
values_of MergeLetters = []
values_of NoComponent = []
values_of SessionRules = []
values_of WrongMap = []
values_of (CompaccessHolders count) = count ∷ []
values_of MoveLimits = []

-- ---- the values in one number, as a C function gives it
-- a record's block and its place there
abbrev pub packed_place : ℕ → ℕ → ℕ
packed_place block slot = block * 65536 + slot

-- 0 where there is no value, one value as it is, and two packed
abbrev pub place_in : List ℕ → ℕ
place_in [] = 0
place_in (value ∷ []) = value
place_in (block ∷ slot ∷ more) = packed_place block slot

abbrev pub place_of : Refusal → ℕ
place_of r = place_in (values_of r)
