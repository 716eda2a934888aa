-- The sample co-operative of document 01 as blocks of an image. Only the labels are left open.
use Rattle.std.specs.Prelude.{ℕ, ◌-◌, ◌/◌, ◌%◌, List, [], ◌∷◌, ◌++◌, length, replicate}

-- ---- blocks and records
-- s with zeros after it, n bytes in all
abbrev pub filled : ℕ → List ℕ → List ℕ
filled n s = s ++ replicate (n - length s) 0

-- a block: kind, number of records, place, payload, and its two check bytes
abbrev pub block : ℕ → ℕ → ℕ → List ℕ → ℕ → ℕ → List ℕ
block kind count place payload a b = filled 510 (kind ∷ count ∷ place ∷ 0 ∷ payload) ++ (a ∷ b ∷ [])

-- a component: class, name, numeric form, parent
abbrev pub component : ℕ → List ℕ → ℕ → ℕ → List ℕ
component class name number parent =
    filled 32 (class ∷ length name ∷ name) ++ filled 8 (number % 256 ∷ number / 256 ∷ parent ∷ [])

-- a label: tag, level place, compartments, groups
abbrev pub label : ℕ → ℕ → ℕ → ℕ → List ℕ
label tag level compartments groups = filled 8 (tag ∷ 0 ∷ 0 ∷ 0 ∷ level ∷ []) ++ filled 8 (compartments ∷ []) ++ filled 8 (groups ∷ [])

-- ---- names
abbrev pub open-level : List ℕ
open-level = 79 ∷ 80 ∷ 69 ∷ 78 ∷ []

abbrev pub crew : List ℕ
crew = 67 ∷ 82 ∷ 69 ∷ 87 ∷ []

abbrev pub vault : List ℕ
vault = 86 ∷ 65 ∷ 85 ∷ 76 ∷ 84 ∷ []

abbrev pub kiln : List ℕ
kiln = 75 ∷ 73 ∷ 76 ∷ 78 ∷ []

abbrev pub glaze : List ℕ
glaze = 71 ∷ 76 ∷ 65 ∷ 90 ∷ 69 ∷ []

abbrev pub works : List ℕ
works = 87 ∷ 79 ∷ 82 ∷ 75 ∷ 83 ∷ []

abbrev pub north : List ℕ
north = 78 ∷ 79 ∷ 82 ∷ 84 ∷ 72 ∷ []

abbrev pub dock : List ℕ
dock = 68 ∷ 79 ∷ 67 ∷ 75 ∷ []

abbrev pub south : List ℕ
south = 83 ∷ 79 ∷ 85 ∷ 84 ∷ 72 ∷ []

abbrev pub mara : List ℕ
mara = 77 ∷ 65 ∷ 82 ∷ 65 ∷ []

-- ---- the blocks, in their order
-- 3 levels, 2 compartments, 4 groups, 1 user and that many labels; with its check
abbrev pub header : ℕ → ℕ → ℕ → List ℕ
header count a b = block 80 0 0 (1 ∷ 3 ∷ 2 ∷ 4 ∷ 1 ∷ 0 ∷ count ∷ 0 ∷ []) a b

abbrev pub components : List ℕ
components =
    block 67 9 1
    (component 1 open-level 100 255 ++ component 1 crew 200 255 ++ component 1 vault 300 255
    ++ component 2 kiln 10 255 ++ component 2 glaze 20 255
    ++ component 3 works 1 255 ++ component 3 north 2 0 ++ component 3 dock 3 1 ++ component 3 south 4 0)
    126 168

-- that many labels; with its check
abbrev pub labels : ℕ → List ℕ → ℕ → ℕ → List ℕ
labels count payload a b = block 76 count 2 payload a b

-- MARA, no privileges: maximum VAULT, the other levels CREW; read and default KILN, GLAZE, write and row KILN; read and default
-- group NORTH, write and row group DOCK
abbrev pub users : List ℕ
users =
    block 85 1 3
    (filled 32 (length mara ∷ mara) ++ filled 8 (2 ∷ 1 ∷ 1 ∷ 1 ∷ [])
    ++ filled 8 (3 ∷ []) ++ filled 8 (1 ∷ []) ++ filled 8 (3 ∷ []) ++ filled 8 (1 ∷ [])
    ++ filled 8 (2 ∷ []) ++ filled 8 (4 ∷ []) ++ filled 8 (2 ∷ []) ++ filled 8 (4 ∷ []))
    152 243
