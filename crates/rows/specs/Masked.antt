-- Masked reading takes a place, from 0, among all rows. It hands back the payload of the row if the session may read it, and otherwise the
-- caller's mask text.
use Rattle.std.specs.Prelude.{ℕ, cond, List, [], ltb, length, get_or, Ok, Err, true, false}
use Rattle.std.specs.Borrow.{Bor}
use Rattle.refusals.specs.declared.Refusal.TheVariants.{NoRow}
use Rattle.refusals.specs.Answers.{on_checked, Verdict}
use Rattle.image.specs.Lookup.{Part, part_of}
use Rattle.access.specs.Rights.{Rights}
use Rattle.sessions.specs.Session.{SessionMarks, session_rights}
use Rattle.rows.specs.Table.{rows_of, payload_length, payload_offset, row_readable, table_answer}

-- ---- with those rights, of those rows: may the one at that place be read? 14 where there is none
unfoldable pub place_verdict : List ℕ → Rights → List (List ℕ) → ℕ → Verdict
place_verdict im rights rows place = cond (ltb place (length rows)) (Ok (row_readable im rights (get_or rows place []))) (Err NoRow)

-- ---- the answer of `masked_verdict`: 1, 2, 31 to 35, 19, 12 before all others
unfoldable pub masked_verdict_of : List ℕ → SessionMarks → List ℕ → ℕ → ℕ → Verdict
masked_verdict_of im s table width place =
    on_checked (table_answer im s table width) Err (place_verdict im (session_rights im s) (rows_of table width) place)

-- ---- the answer of `masked_read`
-- what a verdict hands back: the row's payload, where it stands in the table; the mask text; an empty part. A mask without bytes looks
-- like a refusal: `masked_verdict` tells them apart
abbrev pub masked_by : Verdict → Bor (List ℕ) → ℕ → ℕ → Bor (List ℕ) → Part
masked_by (Ok true) table width place mask = part_of table (payload_offset width place) (payload_length width)
masked_by (Ok false) table width place mask = (mask.ref_ptr, mask.now)
masked_by (Err r) table width place mask = part_of mask 0 0

-- what is handed back
unfoldable pub masked_part : List ℕ → SessionMarks → Bor (List ℕ) → ℕ → ℕ → Bor (List ℕ) → Part
masked_part im s table width place mask = masked_by (masked_verdict_of im s table.now width place) table width place mask
