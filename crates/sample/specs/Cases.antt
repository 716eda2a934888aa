-- P1 to P16 of document 01 as one list: a question each, with what the document says.
use Rattle.std.specs.Prelude.{ℕ, List, [], ◌∷◌, ◌++◌}
use Rattle.labels.specs.Text.{comma, colon}
use Rattle.dominance.specs.TwoLabels.{letter_l, letter_m, letter_u}
use Rattle.sessions.specs.Changes.{with_label}
use Rattle.encoding.specs.Sessions.{session_bytes}
use Rattle.sample.specs.Pieces.{open-level, crew, vault, kiln, glaze, works, north, dock, south}
use Rattle.sample.specs.Cooperative.{cases_image, mara_opened}
use Rattle.labels.specs.Label.{marks}
use Rattle.sample.specs.Questions.{Question, of_row, new_label, merged, printed, Told, verdicts, done, refused, answer}

-- ---- texts
-- LEVEL:list
abbrev two : List ℕ → List ℕ → List ℕ
two level compartments = level ++ colon ∷ compartments

-- LEVEL:list:list
abbrev three : List ℕ → List ℕ → List ℕ → List ℕ
three level compartments groups = level ++ colon ∷ compartments ++ colon ∷ groups

-- a list of two names
abbrev both : List ℕ → List ℕ → List ℕ
both first second = first ++ comma ∷ second

-- LMU
abbrev lmu : List ℕ
lmu = letter_l ∷ letter_m ∷ letter_u ∷ []

-- ---- the list
pub record Case : Type 0 where
  pub question : Question
  pub expected : Told

abbrev case : Question → Told → Case
case q told = record { question = q; expected = told }

-- what a case's question gives
abbrev pub asked : Case → Told
asked c = answer cases_image c.question

unfoldable pub proved : List Case
proved =
    -- P1: CREW:KILN:DOCK read, write
    case (of_row 1) (verdicts (three crew kiln dock) 1 1)
    -- P2: CREW::WORKS neither
    ∷ case (of_row 2) (verdicts (three crew [] works) 0 0)
    -- P3: CREW::DOCK,SOUTH both
    ∷ case (of_row 3) (verdicts (three crew [] (both dock south)) 1 1)
    -- P4: CREW:GLAZE read only
    ∷ case (of_row 4) (verdicts (two crew glaze) 1 0)
    -- P5: CREW:GLAZE:DOCK both
    ∷ case (of_row 5) (verdicts (three crew glaze dock) 1 1)
    -- P6: OPEN read only
    ∷ case (of_row 6) (verdicts open-level 1 0)
    -- P7: VAULT neither
    ∷ case (of_row 7) (verdicts vault 0 0)
    -- P8: CREW::NORTH read only
    ∷ case (of_row 8) (verdicts (three crew [] north) 1 0)
    -- P9: tag 0 neither
    ∷ case (of_row 0) (verdicts [] 0 0)
    -- P10: new session VAULT:KILN:DOCK accepted
    ∷ case (new_label (three vault kiln dock)) (done (session_bytes (with_label mara_opened (marks 2 1 4))))
    -- P11: CREW:GLAZE:NORTH refused 11
    ∷ case (new_label (three crew glaze north)) (refused (11 ∷ []) (session_bytes mara_opened))
    -- P12: OPEN refused 8
    ∷ case (new_label open-level) (refused (8 ∷ []) (session_bytes mara_opened))
    -- P13: CREW::SOUTH refused 10
    ∷ case (new_label (three crew [] south)) (refused (10 ∷ []) (session_bytes mara_opened))
    -- P14: CREW:KILN:NORTH and VAULT:GLAZE:SOUTH by LMU give CREW:KILN:NORTH,SOUTH
    ∷ case (merged (three crew kiln north) (three vault glaze south) lmu) (done (three crew kiln (both north south)))
    -- P15: "VAULT:GLAZE,KILN" prints as VAULT:KILN,GLAZE
    ∷ case (printed (two vault (both glaze kiln))) (done (two vault (both kiln glaze)))
    -- P16: "CREW::" refused 5
    ∷ case (printed (three crew [] [])) (refused (5 ∷ []) [])
    ∷ []
