-- The C functions on tables.
use Rattle.std.specs.Prelude.{ℕ, List, Err}
use Rattle.refusals.specs.Answers.{checked_given, amount_given}
use Rattle.rows.specs.Reading.{read_rows_of}
use Rattle.rows.specs.Updating.{update_row_of}
use Rattle.rows.specs.Masked.{masked_verdict_of}
use Rattle.encoding.specs.Verdicts.{verdict_code}
use Rattle.abi.specs.Answers.{coded, with_session}

-- ---- `brawnesk_read`: the answer, and the buffer after it
abbrev pub read_answer : List ℕ → List ℕ → List ℕ → ℕ → List ℕ → ℕ × List ℕ
read_answer im bytes table width buffer =
    coded amount_given (with_session im bytes (λ r. (Err r, buffer)) (λ s. read_rows_of im s table width buffer))

-- ---- `brawnesk_update`: 0 or the refusal, and the table after it
abbrev pub update_answer : List ℕ → List ℕ → List ℕ → ℕ → ℕ → List ℕ → ℕ × List ℕ
update_answer im bytes table width n payload =
    coded checked_given (with_session im bytes (λ r. (Err r, table)) (λ s. update_row_of im s table width n payload))

-- ---- `brawnesk_masked`: 1 where the payload is handed out, which stands at `payload_offset`; 0 where the mask is
abbrev pub masked_answer : List ℕ → List ℕ → List ℕ → ℕ → ℕ → ℕ
masked_answer im bytes table width place =
    verdict_code (with_session im bytes Err (λ s. masked_verdict_of im s table width place))
