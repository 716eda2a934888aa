-- Two tables of the sample co-operative that differ only in rows hidden from MARA, and a sequence of her calls: an instance of the
-- claim that hidden rows stay hidden.
use Rattle.std.specs.Prelude.{ℕ, replicate}
use mathlib.Core.List.{List, [], ◌∷◌, flatten}
use Rattle.sessions.specs.Session.{SessionMarks, session_marks}
use Rattle.isolation.specs.Calls.{last, other, reading, reading_mapped, updating, Call, opening, setting_label, setting_row_label, on_rows}
use Rattle.sample.specs.Pieces.{mara}
use Rattle.labels.specs.Label.{marks}

-- ---- two tables of width 6
-- a row: a tag below 256, and two bytes of payload
abbrev pub row_of : ℕ → ℕ → ℕ → List ℕ
row_of tag a b = tag ∷ 0 ∷ 0 ∷ 0 ∷ a ∷ b ∷ []

-- what MARA could ever read of either: two rows of CREW:KILN:DOCK and one of OPEN
abbrev pub seen : List (List ℕ)
seen = row_of 10 65 66 ∷ row_of 30 67 68 ∷ row_of 10 69 70 ∷ []

-- with one row of CREW::WORKS and one of tag 0, at places 1 and 4
abbrev pub rows1 : List (List ℕ)
rows1 = row_of 10 65 66 ∷ row_of 20 1 2 ∷ row_of 30 67 68 ∷ row_of 10 69 70 ∷ row_of 0 3 4 ∷ []

-- with two rows of CREW::WORKS, one of tag 0 and one of tag 77, which no label has, at places 0, 2, 3 and 5
abbrev pub rows2 : List (List ℕ)
rows2 = row_of 77 9 9 ∷ row_of 10 65 66 ∷ row_of 20 7 8 ∷ row_of 0 5 6 ∷ row_of 30 67 68 ∷ row_of 20 5 6 ∷ row_of 10 69 70 ∷ []

unfoldable pub table1 : List ℕ
table1 = flatten rows1

unfoldable pub table2 : List ℕ
table2 = flatten rows2

-- ---- MARA's sessions
-- VAULT:KILN:DOCK with row label CREW:KILN:DOCK
abbrev pub vaulted : SessionMarks
vaulted = session_marks 0 (marks 2 1 4) (marks 1 1 4)

-- VAULT:KILN:DOCK with row label CREW
abbrev pub bare : SessionMarks
bare = session_marks 0 (marks 2 1 4) (marks 1 0 0)

-- CREW:GLAZE:NORTH with row label CREW
abbrev pub glazed : SessionMarks
glazed = session_marks 0 (marks 1 2 2) (marks 1 0 0)

-- OPEN, below her minimum level: 19 refuses it
abbrev pub too_low : SessionMarks
too_low = session_marks 0 (marks 0 0 0) (marks 1 1 4)

-- before any session is returned: no user has place 9
abbrev pub no_session : SessionMarks
no_session = session_marks 9 (marks 0 0 0) (marks 0 0 0)

-- ---- her maps: bits of the labels with tags 10, 20, 30
-- of the session that opens
abbrev pub mara_map : List ℕ
mara_map = 5 ∷ []

-- with CREW:GLAZE:NORTH
abbrev pub glazed_map : List ℕ
glazed_map = 4 ∷ []

-- ---- her calls
-- MARK: no user has that name
abbrev pub name_mark : List ℕ
name_mark = 77 ∷ 65 ∷ 82 ∷ 75 ∷ []

-- VAULT:KILN:DOCK
abbrev pub text_vault : List ℕ
text_vault = 86 ∷ 65 ∷ 85 ∷ 76 ∷ 84 ∷ 58 ∷ 75 ∷ 73 ∷ 76 ∷ 78 ∷ 58 ∷ 68 ∷ 79 ∷ 67 ∷ 75 ∷ []

-- CREW:GLAZE:NORTH
abbrev pub text_glaze : List ℕ
text_glaze = 67 ∷ 82 ∷ 69 ∷ 87 ∷ 58 ∷ 71 ∷ 76 ∷ 65 ∷ 90 ∷ 69 ∷ 58 ∷ 78 ∷ 79 ∷ 82 ∷ 84 ∷ 72 ∷ []

-- CREW
abbrev pub text_crew : List ℕ
text_crew = 67 ∷ 82 ∷ 69 ∷ 87 ∷ []

-- the bytes that the reads' buffers held before, 20 each, are all that differs between two such sequences
abbrev pub calls : ℕ → List Call
calls byte =
    opening mara
    ∷ opening name_mark
    ∷ on_rows last 6 (reading (replicate 20 byte))
    ∷ on_rows last 6 (reading_mapped mara_map (replicate 20 byte))
    ∷ on_rows last 6 (updating 2 (88 ∷ 89 ∷ []))
    ∷ on_rows last 6 (updating 1 (88 ∷ 89 ∷ []))
    ∷ setting_label last text_vault
    ∷ setting_label last text_glaze
    ∷ on_rows last 4 (reading (replicate 20 byte))
    ∷ on_rows (other too_low) 6 (reading (replicate 20 byte))
    ∷ on_rows last 6 (reading (replicate 20 byte))
    ∷ setting_row_label last text_crew
    ∷ setting_label last text_glaze
    ∷ on_rows last 6 (reading (replicate 20 byte))
    ∷ on_rows last 6 (reading_mapped mara_map (replicate 20 byte))
    ∷ on_rows last 6 (reading_mapped glazed_map (replicate 20 byte))
    ∷ on_rows last 6 (updating 1 (88 ∷ 89 ∷ []))
    ∷ []
