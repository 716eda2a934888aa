-- What a buffer held before a read shows in no answer. Assumes nothing.
use Rattle.std.proofs.Common.{Ok, Err}
use Prim.Native.Nat.{ℕ, ◌*◌}
use mathlib.Core.Path.{◌≡◌, refl, sym, ap, ◌∙◌}
use mathlib.Core.Bool.{Bool, true, false, cond}
use mathlib.Core.List.{List, [], ◌∷◌, ◌++◌, flatten, map}
use lib.Dec.{leb}
use lib.ListN.{length, drop, replicate, length-replicate}
use lib.Seq.{take_at}
use Rattle.refusals.specs.declared.Refusal.TheVariants.{Room}
use Rattle.refusals.specs.Answers.{on_checked, Amount, Checked}
use Rattle.sessions.specs.Session.{SessionMarks, session_rights}
use Rattle.rows.specs.Table.{readable_rows, table_answer}
use Rattle.rows.specs.Reading.{handed_out, read_rows_of}
use Rattle.maps.specs.Calls.{map_answer}
use Rattle.rows.specs.Mapped.{read_mapped_of}
use Rattle.rows.proofs.Standing.{AllWide}
use Rattle.isolation.specs.Calls.{Call, opening, setting_label, setting_row_label, on_rows, reading, reading_mapped, updating}
use Rattle.isolation.specs.Calls.{Answer, rows_handed, State, lent_session, bytes_read, row_step, step, run}
use Rattle.isolation.specs.Claim.{buffer_zeroed, Alike}
use Rattle.rows.proofs.Wide.{flatten-length}
use Rattle.rows.proofs.Held.{readable-wide}
use Rattle.rows.proofs.Giving.{table-accepted, seen_of, answers_agree}
use Rattle.rows.proofs.ByMap.{mapped-plain}

-- ---- one read
-- what a caller sees of a read
abbrev shown : ℕ → Amount × List ℕ → Answer
shown w result = rows_handed result.0 (bytes_read result.0 w result.1)

-- rows of one width: all bytes that are shown were written
rows-shown : (w : ℕ) (rows : List (List ℕ)) → AllWide w rows → (buffer : List ℕ)
    → shown w (handed_out rows buffer)
    ≡ cond (leb (length (flatten rows)) (length buffer)) (rows_handed (Ok (length rows)) (flatten rows)) (rows_handed (Err Room) [])
unfolding handed_out
rows-shown w rows a buffer = at (leb (length (flatten rows)) (length buffer))
  where
    at : (t : Bool)
        → shown w (cond t (Ok (length rows), flatten rows ++ drop (length (flatten rows)) buffer) (Err Room, buffer))
        ≡ cond t (rows_handed (Ok (length rows)) (flatten rows)) (rows_handed (Err Room) [])
    at true =
        ap (rows_handed (Ok (length rows)))
        (take_at (flatten rows) (drop (length (flatten rows)) buffer) (length rows * w) (flatten-length w rows a))
    at false = refl

-- a read of rows of one width, after any check
rows_alike : (w : ℕ) (rows : List (List ℕ)) → AllWide w rows → (buffer1 buffer2 : List ℕ) → length buffer1 ≡ length buffer2
    → shown w (handed_out rows buffer1) ≡ shown w (handed_out rows buffer2)
rows_alike w rows wide buffer1 buffer2 same = rows-shown w rows wide buffer1 ∙ (rw same) ∙ sym (rows-shown w rows wide buffer2)

checked-alike : (w : ℕ) (c : Checked) (read : List ℕ → Amount × List ℕ) (buffer1 buffer2 : List ℕ)
    → (c ≡ (Ok tt) → shown w (read buffer1) ≡ shown w (read buffer2))
    → shown w (on_checked c (λ r. (Err r, buffer1)) (read buffer1)) ≡ shown w (on_checked c (λ r. (Err r, buffer2)) (read buffer2))
checked-alike w c read buffer1 buffer2 alike =
    seen_of (shown w) c (λ r. (Err r, buffer1)) (read buffer1)
    ∙ answers_agree (λ r. rows_handed (Err r) []) _ _ c _ refl alike
    ∙ sym (seen_of (shown w) c (λ r. (Err r, buffer2)) (read buffer2))

pub buffers-alike : (im : List ℕ) (s : SessionMarks) (table : List ℕ) (w : ℕ) (buffer1 buffer2 : List ℕ) → length buffer1 ≡ length buffer2
    → shown w (read_rows_of im s table w buffer1) ≡ shown w (read_rows_of im s table w buffer2)
unfolding read_rows_of
buffers-alike im s table w buffer1 buffer2 same =
    checked-alike w (table_answer im s table w) (λ b. handed_out (readable_rows im (session_rights im s) table w) b) buffer1 buffer2
    (λ e. rows_alike w _ (readable-wide table w (table-accepted im s table w e).1 im (session_rights im s)) buffer1 buffer2 same)

pub mapped-alike : (im : List ℕ) (s : SessionMarks) (table : List ℕ) (w : ℕ) (bits buffer1 buffer2 : List ℕ) → length buffer1 ≡ length buffer2
    → shown w (read_mapped_of im s table w bits buffer1) ≡ shown w (read_mapped_of im s table w bits buffer2)
mapped-alike im s table w bits buffer1 buffer2 same =
    ap (shown w) (mapped-plain im s table w bits buffer1)
    ∙ checked-alike w (table_answer im s table w) judged buffer1 buffer2
    (λ e. checked-alike w (map_answer im (session_rights im s) bits) (λ b. handed_out rows b) buffer1 buffer2
    (λ j. rows_alike w rows (readable-wide table w (table-accepted im s table w e).1 im (session_rights im s)) buffer1 buffer2 same))
    ∙ sym (ap (shown w) (mapped-plain im s table w bits buffer2))
  where
    rows : List (List ℕ)
    rows = readable_rows im (session_rights im s) table w

    judged : List ℕ → Amount × List ℕ
    judged b = on_checked (map_answer im (session_rights im s) bits) (λ r. (Err r, b)) (handed_out rows b)

-- ---- a sequence
step-alike : (im : List ℕ) (state : State) (call : Call) → step im state call ≡ step im state (buffer_zeroed call)
unfolding step row_step
step-alike im state (opening name) = refl
step-alike im state (setting_label lent text) = refl
step-alike im state (setting_row_label lent text) = refl
step-alike im state (on_rows lent w (reading buffer)) =
    ap (λ (a : Answer). (state, a))
    (buffers-alike im (lent_session state lent) state.table w buffer (replicate (length buffer) 0) (sym (length-replicate (length buffer) 0)))
step-alike im state (on_rows lent w (reading_mapped bits buffer)) =
    ap (λ (a : Answer). (state, a))
    (mapped-alike im (lent_session state lent) state.table w bits buffer (replicate (length buffer) 0) (sym (length-replicate (length buffer) 0)))
step-alike im state (on_rows lent w (updating n payload)) = refl

run-alike : (im : List ℕ) (calls : List Call) (state : State) → run im state calls ≡ run im state (map buffer_zeroed calls)
unfolding run
run-alike im [] state = refl
run-alike im (call ∷ calls) state = rw (step-alike im state call, run-alike im calls (step im state (buffer_zeroed call)).0)

pub runs-equal : (im : List ℕ) (calls1 calls2 : List Call) → Alike calls1 calls2 → (state : State) → run im state calls1 ≡ run im state calls2
runs-equal im calls1 calls2 e state =
    run-alike im calls1 state ∙ ap (run im state) e ∙ sym (run-alike im calls2 state)
