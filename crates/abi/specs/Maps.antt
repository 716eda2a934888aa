-- The C functions on maps.
use Rattle.std.specs.Prelude.{ℕ, List, Err}
use Rattle.refusals.specs.Answers.{checked_given, code_of, amount_given}
use Rattle.buffers.specs.Filling.{unfilled}
use Rattle.maps.specs.Calls.{make_map_of, judge_map_of}
use Rattle.rows.specs.Mapped.{read_mapped_of}
use Rattle.abi.specs.Answers.{coded, with_session}

-- ---- `brawnesk_map`: the map's length, and the buffer after it
abbrev pub make_map_answer : List ℕ → List ℕ → List ℕ → ℕ × List ℕ
make_map_answer im bytes buffer = coded amount_given (with_session im bytes (unfilled buffer) (λ s. make_map_of im s buffer))

-- ---- `brawnesk_judge_map`: 0 or the refusal
abbrev pub judge_map_answer : List ℕ → List ℕ → List ℕ → ℕ
judge_map_answer im bytes bits = code_of (checked_given (with_session im bytes Err (λ s. judge_map_of im s bits)))

-- ---- `brawnesk_read_mapped`: how many rows, and the buffer after it
abbrev pub read_mapped_answer : List ℕ → List ℕ → List ℕ → ℕ → List ℕ → List ℕ → ℕ × List ℕ
read_mapped_answer im bytes table width bits buffer =
    coded amount_given (with_session im bytes (λ r. (Err r, buffer)) (λ s. read_mapped_of im s table width bits buffer))
