-- A session in 104 bytes: byte 0 the user's place, byte 1 the signed-on user's place, which equals it; 2..7 are written as zero and
-- not looked at; 8..55 session label; 56..103 row label.
use Rattle.std.specs.Prelude.{ℕ, ◌^◌, ◌<◌, ◌≡◌, Bool, true, List, ◌∷◌, ◌++◌, eqb, Result, Ok, Err}
use Rattle.fields.specs.Bytes.{byte_at, part}
use Rattle.refusals.specs.declared.Refusal.{Refusal}
use Rattle.refusals.specs.Answers.{on_checked, Given, done, refusal_given, checked_given, code_of, answer_of, Checked}
use Rattle.sessions.specs.declared.session.Session.{Session}
use Rattle.sessions.specs.Session.{SessionMarks, session_marks, session_of}
use Rattle.encoding.specs.Labels.{label_bytes, label_in, LabelFits}

unfoldable pub session_bytes : SessionMarks → List ℕ
session_bytes s = s.user ∷ s.user ∷ 0 ∷ 0 ∷ 0 ∷ 0 ∷ 0 ∷ 0 ∷ label_bytes s.label ++ label_bytes s.row

-- each part of the session fits its bytes
pub record SessionPartsFit (s : SessionMarks) : Type 0 where
  pub user : s.user < 2 ^ 8
  pub label : LabelFits s.label
  pub row : LabelFits s.row

-- the session that 104 bytes hold
unfoldable pub session_in : List ℕ → SessionMarks
session_in bytes = session_marks (byte_at bytes 0) (label_in (part bytes 8 48)) (label_in (part bytes 56 48))

-- the signed-on user is the user
abbrev pub one_user : List ℕ → Bool
one_user bytes = eqb (byte_at bytes 1) (byte_at bytes 0)

-- the bytes hold that session, and its one user is signed on
pub record Holds (bytes : List ℕ) (s : SessionMarks) : Type 0 where
  pub one : one_user bytes ≡ true
  pub session : session_in bytes ≡ s

-- what a label change leaves: 0 and the session, or the refusal and the bytes as they were
abbrev pub changed_into : SessionMarks → Checked → List ℕ → ℕ × List ℕ
changed_into s answer old = (code_of (checked_given answer), on_checked answer (λ r. old) (session_bytes s))

-- the same of an answer of the code: what is given back, and what it leaves of the bytes
abbrev pub changed_given : Result Session Refusal → Given
changed_given (Ok new) = done 0
changed_given (Err r) = refusal_given r

abbrev pub stored : Result Session Refusal → List ℕ → ℕ × List ℕ
stored (Ok new) old = (0, session_bytes (session_of new))
stored (Err r) old = (answer_of r, old)
