-- A small image of the release profile: two partners, NORTH and SOUTH, and MARA, who is of NORTH.
use Rattle.std.specs.Prelude.{ℕ, List, [], ◌∷◌, ◌++◌, length, replicate}
use Rattle.labels.specs.Label.{marks}
use Rattle.sessions.specs.Session.{SessionMarks, session_marks}
use Rattle.sample.specs.Pieces.{filled, block, component, label, open-level, crew, vault, north, south, mara}

-- rows of level CREW: 10 goes to NORTH, 20 to both, 30 to none, 40 to SOUTH. MARA's maximum is VAULT, the other levels CREW; all four sets of groups are
-- NORTH
unfoldable pub partners : List ℕ
partners =
    block 80 0 0 (1 ∷ 3 ∷ 0 ∷ 2 ∷ 1 ∷ 0 ∷ 4 ∷ 0 ∷ 1 ∷ []) 92 162
    ++ block 67 5 1
    (component 1 open-level 100 255 ++ component 1 crew 200 255 ++ component 1 vault 300 255 ++ component 3 north 1 255 ++ component 3 south 2 255)
    218 84
    ++ block 76 4 2 (label 10 1 0 1 ++ label 20 1 0 3 ++ label 30 1 0 0 ++ label 40 1 0 2) 192 145
    ++ block 85 1 3
    (filled 32 (length mara ∷ mara) ++ filled 8 (2 ∷ 1 ∷ 1 ∷ 1 ∷ []) ++ replicate 32 0
    ++ filled 8 (1 ∷ []) ++ filled 8 (1 ∷ []) ++ filled 8 (1 ∷ []) ++ filled 8 (1 ∷ []))
    136 120

-- MARA's session as it opens, and the same with SOUTH beside NORTH
abbrev pub of_north : SessionMarks
of_north = session_marks 0 (marks 1 0 1) (marks 1 0 1)

abbrev pub of_both : SessionMarks
of_both = session_marks 0 (marks 1 0 3) (marks 1 0 3)
