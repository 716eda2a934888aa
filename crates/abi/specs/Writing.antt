-- The C functions that write an image and take one apart: the answer, and the buffer after it.
use Rattle.refusals.specs.Answers.{amount_given}
use Rattle.std.specs.Prelude.{ℕ, List}
use Rattle.header.specs.declared.layout.Kind.{Kind}
use Rattle.writing.specs.Calls.{write_of, write_given, records_given_of}
use Rattle.abi.specs.Answers.{coded}

-- ---- `brawnesk_write`
abbrev pub write_answer : ℕ → ℕ → List ℕ → List ℕ → List ℕ → List ℕ → ℕ × List ℕ
write_answer edition profile components labels users buffer = coded write_given (write_of edition profile components labels users buffer)

-- ---- `brawnesk_component_records`, `brawnesk_label_records`, `brawnesk_user_records`
abbrev pub records_answer : Kind → List ℕ → List ℕ → ℕ × List ℕ
records_answer kind im buffer = coded amount_given (records_given_of kind im buffer)
