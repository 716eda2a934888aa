-- What the C functions answer: one number for what a call gives back (`code_of`), and beside it the bytes that the call writes.
use Rattle.std.specs.Prelude.{ℕ, ◌+◌, ◌*◌, cond, List}
use Rattle.refusals.specs.declared.Refusal.{Refusal}
use Rattle.refusals.specs.declared.Refusal.TheVariants.{SessionRules}
use Rattle.refusals.specs.Answers.{on_checked, Given, done, refusal_given, checked_given, code_of}
use Rattle.image.specs.Check.{check_of}
use Rattle.image.specs.Lookup.{name_answer, name_offset, name_length}
use Rattle.sessions.specs.Session.{SessionMarks}
use Rattle.encoding.specs.Sessions.{session_in, one_user}

-- an answer beside the bytes after it, told in one number by what the answer gives back
abbrev pub coded : {A : Type 0} → (A → Given) → A × List ℕ → ℕ × List ℕ
coded given result = (code_of (given result.0), result.1)

-- the refusal of the image, 1, 2 or 31 to 35; of an accepted one that refusal
abbrev pub after_check : List ℕ → Refusal → Refusal
after_check im r = on_checked (check_of im) (λ q. q) r

-- what the session that the bytes hold is answered; 19 after 1, 2, 31 to 35 where they name two users
abbrev pub with_session : {A : Type 0} → List ℕ → List ℕ → (Refusal → A) → (SessionMarks → A) → A
with_session im bytes refuse answer = cond (one_user bytes) (answer (session_in bytes)) (refuse (after_check im SessionRules))

-- `brawnesk_check`: 0 for an accepted image
abbrev pub check_answer : List ℕ → ℕ
check_answer im = code_of (checked_given (check_of im))

-- `brawnesk_name`: the name's offset in the image + 65,536 × its length
abbrev pub name_given : List ℕ → ℕ → ℕ → Given
name_given im class place =
    on_checked (name_answer im class place) refusal_given (done (name_offset im class place + 65536 * name_length im class place))

abbrev pub name_span : List ℕ → ℕ → ℕ → ℕ
name_span im class place = code_of (name_given im class place)
