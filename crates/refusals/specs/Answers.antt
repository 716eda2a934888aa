-- Answers: done or refused, and a verdict. What each gives back, and how an answer goes on after another.
use Rattle.std.specs.Prelude.{ℕ, ◌+◌, ◌*◌, ◌^◌, ◌<◌, Bool, true, false, cond, List, Result, Ok, Err, ⊤}
use Rattle.refusals.specs.declared.Refusal.{Refusal}
use Rattle.refusals.specs.Refusals.{number_of, values_of, place_in}

-- done, or refused
abbrev pub Checked : Type 0
Checked = Result ⊤ Refusal

-- yes or no, or the refusal where there is no verdict
abbrev pub Verdict : Type 0
Verdict = Result Bool Refusal

-- a number, or refused: how many bytes are written, or how many rows
abbrev pub Amount : Type 0
Amount = Result ℕ Refusal

-- what is given where an answer accepts; else what its refusal gives
abbrev pub on_checked : {A : Type 0} → Checked → (Refusal → A) → A → A
on_checked (Ok accepted) refuse answer = answer
on_checked (Err r) refuse answer = refuse r

-- the refusal unless the rule holds; then the rest
abbrev pub or_refuse : Bool → Refusal → Checked → Checked
or_refuse rule refusal rest = cond rule rest (Err refusal)

-- the answer refuses nothing
abbrev pub allowed : Checked → Bool
allowed (Ok accepted) = true
allowed (Err r) = false

-- ---- what is given back
-- the value of a call that is done; or the number of a refusal, with the values returned beside it
pub data Given : Type 0 where
  done : ℕ → Given
  refused : ℕ → List ℕ → Given

-- by a refusal
abbrev pub refusal_given : Refusal → Given
refusal_given r = refused (number_of r) (values_of r)

-- by an answer: 0 where it accepts
abbrev pub checked_given : Checked → Given
checked_given (Ok accepted) = done 0
checked_given (Err r) = refusal_given r

-- by a verdict: 1 yes, 0 no
abbrev pub verdict_given : Verdict → Given
verdict_given (Ok true) = done 1
verdict_given (Ok false) = done 0
verdict_given (Err r) = refusal_given r

-- by a number: how many bytes are written, or how many rows
abbrev pub amount_given : Amount → Given
amount_given (Ok n) = done n
amount_given (Err r) = refusal_given r

-- the number given back; 0 where it is done
abbrev pub number_given : Given → ℕ
number_given (done value) = 0
number_given (refused number values) = number

-- the values returned beside a number, in one number; 0 where there is none
abbrev pub place_given : Given → ℕ
place_given (done value) = 0
place_given (refused number values) = place_in values

-- a place fits the 32 bits that it has in the C functions' number
abbrev pub PlaceFits : Given → Type 0
PlaceFits given = place_given given < 2 ^ 32

-- the C functions' number: below 2 ^ 63 the value, else 2 ^ 63 + number × 2 ^ 32 + place
abbrev pub code_of : Given → ℕ
code_of (done value) = value
code_of (refused number values) = 2 ^ 63 + number * 2 ^ 32 + place_in values

-- that of a refusal
abbrev pub answer_of : Refusal → ℕ
answer_of r = code_of (refusal_given r)
