-- The sample co-operative of document 01 as two images, which differ in their labels only, and MARA's session as it opens in both.
use Rattle.std.specs.Prelude.{ℕ, List, ◌++◌}
use Rattle.labels.specs.Label.{marks}
use Rattle.sessions.specs.Session.{SessionMarks, session_marks}
use Rattle.sample.specs.Pieces.{label, header, components, labels, users}

-- the report's: 10 = CREW:KILN:DOCK, 20 = CREW::WORKS, 30 = OPEN
unfoldable pub cooperative : List ℕ
cooperative = header 3 94 158 ++ components ++ labels 3 (label 10 1 1 4 ++ label 20 1 0 1 ++ label 30 0 0 0) 149 207 ++ users

-- one label for each of P1 to P8: CREW:KILN:DOCK, CREW::WORKS, CREW::DOCK,SOUTH, CREW:GLAZE, CREW:GLAZE:DOCK, OPEN, VAULT,
-- CREW::NORTH
abbrev eight_labels : List ℕ
eight_labels =
    label 1 1 1 4 ++ label 2 1 0 1 ++ label 3 1 0 12 ++ label 4 1 2 0
    ++ label 5 1 2 4 ++ label 6 0 0 0 ++ label 7 2 0 0 ++ label 8 1 0 2

-- the cases': the label of P1 has tag 1, and so on
unfoldable pub cases_image : List ℕ
cases_image = header 8 99 108 ++ components ++ labels 8 eight_labels 158 16 ++ users

-- MARA's session: CREW:KILN,GLAZE:NORTH with row label CREW:KILN:DOCK
abbrev pub mara_opened : SessionMarks
mara_opened = session_marks 0 (marks 1 3 2) (marks 1 1 4)
