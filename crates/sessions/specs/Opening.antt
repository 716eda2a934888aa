-- Opening takes a user name and gives the default label and the default row label.
use Rattle.std.specs.Prelude.{ℕ, cond, List, ltb, Result, Ok, Err}
use Rattle.refusals.specs.declared.Refusal.{Refusal}
use Rattle.refusals.specs.declared.Refusal.TheVariants.{NoUser}
use Rattle.header.specs.declared.edition.Edition.{Edition}
use Rattle.header.specs.Layout.{edition_of, users, user_record}
use Rattle.records.specs.Fields.{default_level, default_compartments, default_groups, row_level, row_compartments, row_groups}
use Rattle.image.specs.Check.{check_of}
use Rattle.refusals.specs.Answers.{on_checked}
use Rattle.image.specs.Lookup.{user_of_name}
use Rattle.labels.specs.Label.{Marks, marks}
use Rattle.sessions.specs.Session.{SessionMarks, session_marks, session_of}
use Rattle.sessions.specs.declared.session.Session.{Session}

unfoldable pub default_label : Edition → List ℕ → Marks
default_label edition rec = marks (default_level rec) (default_compartments rec) (default_groups edition rec)

unfoldable pub default_row_label : Edition → List ℕ → Marks
default_row_label edition rec = marks (row_level rec) (row_compartments rec) (row_groups edition rec)

-- the session that opens for the user at place u
unfoldable pub default_session : List ℕ → ℕ → SessionMarks
default_session im u =
    let rec = user_record im u in session_marks u (default_label (edition_of im) rec) (default_row_label (edition_of im) rec)

-- ---- the answer of `open`: a session, or a refusal
pub data Opening : Type 0 where
  session : SessionMarks → Opening
  refused : Refusal → Opening

-- 4 where no user has that name
unfoldable pub open_accepted : List ℕ → List ℕ → Opening
open_accepted im name =
    let u = user_of_name im name in cond (ltb u (users im)) (session (default_session im u)) (refused NoUser)

-- 1, 2, 31 to 35 before it
unfoldable pub open_of : List ℕ → List ℕ → Opening
open_of im name = on_checked (check_of im) refused (open_accepted im name)

-- what an answer of the code stands for
abbrev pub opening_of : Result Session Refusal → Opening
opening_of (Ok s) = session (session_of s)
opening_of (Err r) = refused r
