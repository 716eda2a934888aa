-- What the parts of the row calls do, one row at a time.
use Rattle.sessions.specs.Lent.{LentView}
use Rattle.std.specs.Prelude.{ℕ, ◌*◌, ◌≤◌, ◌≡◌, Bool, true, cond, length, Ok, Err}
use mathlib.Core.List.{List, [], flatten}
use Rattle.header.specs.Layout.{labels}
use Rattle.access.specs.Rights.{rights_of}
use Rattle.image.specs.Check.{IsAccepted}
use Rattle.sessions.specs.Session.{SessionMarks, session_rights}
use Rattle.rows.specs.Run.{IsRun, run_rows, kept}
use Rattle.rows.specs.Table.{table_rule, table_answer}

-- ---- any test of a row
-- what a row adds to a scan: its bytes where it passes
unfoldable pub row_bytes : (List ℕ → Bool) → List ℕ → List ℕ
row_bytes test row = cond (test row) row []

-- the bytes of the rows of a run that pass
abbrev pub kept_bytes : (List ℕ → Bool) → List ℕ → ℕ → List ℕ
kept_bytes test run width = flatten (kept test (run_rows run width))

-- ---- what code may take for granted
-- once image and table are accepted, of the run that the table holds
pub record Usable (im run : List ℕ) (width : ℕ) : Type 0 where
  pub accepted : IsAccepted im
  pub whole : IsRun run width

-- and of the table
pub record UsableTable (im table : List ℕ) (width : ℕ) : Type 0 where
  pub accepted : IsAccepted im
  pub rule : table_rule table width ≡ true

-- bytes that have a bit for each label record of an accepted image; whether they are the map does not count
pub record Mapping (im bits : List ℕ) : Type 0 where
  pub accepted : IsAccepted im
  pub enough : labels im ≤ 8 * length bits

-- and a run to be read by them
pub record MappedRun (im bits run : List ℕ) (width : ℕ) : Type 0 where
  pub mapping : Mapping im bits
  pub whole : IsRun run width

-- what the code finds of a lent session and table: what the session gives its user, or the refusal
abbrev pub TableGives : List ℕ → SessionMarks → List ℕ → ℕ → LentView → Type 0
TableGives im s table width (Ok view) =
    (table_answer im s table width ≡ Ok tt) × (UsableTable im table width × (rights_of view ≡ session_rights im s))
TableGives im s table width (Err r) = table_answer im s table width ≡ Err r
