-- A session: a user's place, a session label and a row label.
use Rattle.std.specs.Prelude.{ℕ, List, Ok, Err}
use Rattle.refusals.specs.declared.Refusal.TheVariants.{SessionRules}
use Rattle.image.specs.Check.{check_of}
use Rattle.refusals.specs.Answers.{on_checked, or_refuse, Checked}
use Rattle.labels.specs.Label.{Marks, marks_of}
use Rattle.access.specs.Rights.{Rights, rights_at}
use Rattle.access.specs.NewLabels.{session_rule}
use Rattle.sessions.specs.declared.session.Session.{Session}

-- what a session stands for
pub record SessionMarks : Type 0 where
  pub user : ℕ
  pub label : Marks
  pub row : Marks

abbrev pub session_marks : ℕ → Marks → Marks → SessionMarks
session_marks user label row = record { user = user; label = label; row = row }

abbrev pub session_of : Session → SessionMarks
session_of s = session_marks s.user (marks_of s.label) (marks_of s.row)

-- ---- a lent session
-- 1, 2, 31 to 35; then 19 unless the user's place exists and both labels meet their rules
unfoldable pub lent_answer : List ℕ → SessionMarks → Checked
lent_answer im s = on_checked (check_of im) Err (or_refuse (session_rule im s.user s.label s.row) SessionRules (Ok tt))

-- what the session gives its user
abbrev pub session_rights : List ℕ → SessionMarks → Rights
session_rights im s = rights_at im s.user s.label
