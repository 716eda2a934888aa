-- The C functions on label text.
use Rattle.std.specs.Prelude.{ℕ, List, Ok, Err}
use Rattle.refusals.specs.Answers.{Given, done, refusal_given, amount_given}
use Rattle.labels.specs.Parse.{Parsing, parse_of}
use Rattle.printing.specs.Print.{print_of}
use Rattle.encoding.specs.Labels.{label_bytes, label_in}
use Rattle.abi.specs.Answers.{coded}

-- ---- `brawnesk_parse`: the answer, and the label's bytes after it
-- what reading a text gives back: 0 where it names a label
abbrev pub parsing_given : Parsing → Given
parsing_given (Ok m) = done 0
parsing_given (Err r) = refusal_given r

-- and the bytes that it leaves: the label's, or as they were
abbrev pub parsed_into : Parsing → List ℕ → List ℕ
parsed_into (Ok m) old = label_bytes m
parsed_into (Err r) old = old

abbrev pub parse_answer : List ℕ → List ℕ → List ℕ → ℕ × List ℕ
parse_answer im text old = coded parsing_given (parse_of im text, parsed_into (parse_of im text) old)

-- ---- `brawnesk_print`: the answer, and the buffer after it
abbrev pub print_answer : List ℕ → List ℕ → List ℕ → ℕ × List ℕ
print_answer im bytes buffer = coded amount_given (print_of im (label_in bytes) buffer)
