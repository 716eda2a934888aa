-- What the code finds of a lent session, once for a call.
use Rattle.std.specs.Prelude.{ℕ, ◌≡◌, List, Result, Ok, Err}
use Rattle.hierarchy.specs.Below.{Tabled}
use Rattle.refusals.specs.declared.Refusal.{Refusal}
use Rattle.access.specs.declared.rights.View.{View}
use Rattle.access.specs.Rights.{rights_of}
use Rattle.sessions.specs.Session.{SessionMarks, lent_answer, session_rights}

-- what a session gives its user, or the refusal
abbrev pub LentView : Type 0
LentView = Result View Refusal

-- where image and session are accepted, what the session gives its user, with a table of parents; else the refusal
abbrev pub LentGives : List ℕ → List ℕ → SessionMarks → LentView → Type 0
LentGives im table s (Ok view) =
    (lent_answer im s ≡ Ok tt) × (Tabled im table × (rights_of view ≡ session_rights im s))
LentGives im table s (Err r) = lent_answer im s ≡ Err r
