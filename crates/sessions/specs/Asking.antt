-- Asking a session for a verdict on a tag.
use Rattle.std.specs.Prelude.{ℕ, List, Ok, Err}
use Rattle.refusals.specs.Answers.{on_checked, Verdict}
use Rattle.access.specs.Verdicts.{may_read, may_write}
use Rattle.sessions.specs.Session.{SessionMarks, lent_answer, session_rights}

-- the answers of `may_read` and `may_write`: 1, 2, 31 to 35, 19 before all others
unfoldable pub may_read_of : List ℕ → SessionMarks → ℕ → Verdict
may_read_of im s tag = on_checked (lent_answer im s) Err (Ok (may_read im (session_rights im s) tag))

unfoldable pub may_write_of : List ℕ → SessionMarks → ℕ → Verdict
may_write_of im s tag = on_checked (lent_answer im s) Err (Ok (may_write im (session_rights im s) tag))
