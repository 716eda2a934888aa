-- A verdict as the C functions' number: 1 yes, 0 no, else the refusal.
use Rattle.std.specs.Prelude.{ℕ}
use Rattle.refusals.specs.Answers.{verdict_given, code_of, Verdict}

abbrev pub verdict_code : Verdict → ℕ
verdict_code v = code_of (verdict_given v)
