-- Label changes: a session goes in and comes back changed or as it was. New labels come as text.
use Rattle.std.specs.Prelude.{ℕ, List, Result, Ok, Err}
use Rattle.refusals.specs.Answers.{on_checked, Checked}
use Rattle.labels.specs.Label.{Marks}
use Rattle.labels.specs.Parse.{Reading, read, refused, read_text, refusal_of}
use Rattle.access.specs.NewLabels.{session_label_answer, row_label_answer}
use Rattle.sessions.specs.Session.{SessionMarks, session_marks, session_of, lent_answer, session_rights}
use Rattle.refusals.specs.declared.Refusal.{Refusal}
use Rattle.sessions.specs.declared.session.Session.{Session}

-- the new session where the answer accepts it; else the session as it was, with the refusal
abbrev pub change_if : SessionMarks → Checked → SessionMarks → SessionMarks × Checked
change_if old answer new = on_checked answer (λ r. (old, Err r)) (new, Ok tt)

-- the label of a text, asked of a rule: 5, the leftmost 6 or 7, then those of the rule
abbrev pub change_to : SessionMarks → Reading Marks → (Marks → Checked) → (Marks → SessionMarks) → SessionMarks × Checked
change_to old (read new) rule change = change_if old (rule new) (change new)
change_to old (refused reason) rule change = (old, Err (refusal_of reason))

-- ---- a lent session that is accepted
abbrev pub with_label : SessionMarks → Marks → SessionMarks
with_label s new = session_marks s.user new s.row

abbrev pub with_row_label : SessionMarks → Marks → SessionMarks
with_row_label s new = session_marks s.user s.label new

unfoldable pub label_change : List ℕ → SessionMarks → List ℕ → SessionMarks × Checked
label_change im s text =
    change_to s (read_text im text) (λ new. session_label_answer im s.user new s.row) (λ new. with_label s new)

unfoldable pub row_label_change : List ℕ → SessionMarks → List ℕ → SessionMarks × Checked
row_label_change im s text =
    change_to s (read_text im text) (λ new. row_label_answer (session_rights im s) new) (λ new. with_row_label s new)

-- ---- the answers of `set_label` and `set_row_label`
-- 1, 2, 31 to 35, 19 before all others
abbrev pub after_lent : List ℕ → SessionMarks → SessionMarks × Checked → SessionMarks × Checked
after_lent im s change = on_checked (lent_answer im s) (λ r. (s, Err r)) change

unfoldable pub set_label_of : List ℕ → SessionMarks → List ℕ → SessionMarks × Checked
set_label_of im s text = after_lent im s (label_change im s text)

unfoldable pub set_row_label_of : List ℕ → SessionMarks → List ℕ → SessionMarks × Checked
set_row_label_of im s text = after_lent im s (row_label_change im s text)

-- what an answer of the code stands for: the changed session, or the session as it was, with the refusal
abbrev pub change_of : Session → Result Session Refusal → SessionMarks × Checked
change_of old (Ok new) = (session_of new, Ok tt)
change_of old (Err r) = (session_of old, Err r)
