-- How the row calls end on an accepted table. Assumes nothing.
use Rattle.std.proofs.Common.{Ok, Err}
use Prim.Native.Nat.{ℕ, zero, suc, ◌+◌, ◌-◌, ◌*◌, ◌/◌, ◌≤◌, ◌<◌}
use mathlib.Core.Path.{◌≡◌, refl, sym, ap, ap₂, ◌∙◌}
use mathlib.Core.Bool.{Bool, true, false, true≢false, cond}
use mathlib.Core.List.{List, [], flatten}
use native.Mathlib.Nat.{zero-add, zero-mul, suc-mul, add_assoc, mul-div_cancel, div-mul-le_self, mul-le-mul, le_refl, add-sub_cancel_left}
use native.Mathlib.Omega.{arith}
use borrow.Author.Tests.{eq-eqb, ne_eqb, lt-ltb, le-ltb, ltb-true}
use lib.Dec.{leb, ltb}
use lib.ListN.{length, take, drop, get_or}
use lib.Seq.{drop-drop}
use Rattle.fields.specs.Bytes.{part}
use Rattle.fields.proofs.Laws.{drop-take}
use Rattle.refusals.specs.declared.Refusal.TheVariants.{Room, PayloadLength, NoRow, RowNotWritable, TableShape}
use Rattle.refusals.specs.Answers.{on_checked, or_refuse, Checked, Verdict}
use Rattle.access.specs.Rights.{Rights}
use Rattle.sessions.specs.Session.{SessionMarks, lent_answer, session_rights}
use Rattle.buffers.specs.Pasting.{Written}
use Rattle.buffers.proofs.Pasted.{front}
use Rattle.rows.specs.Run.{first_rows, run_rows, row_offset}
use Rattle.rows.specs.Table.{table_run, run_start, rows_of, row_payload, payload_offset, payload_length, row_readable, row_writable, readable_rows, table_rule, table_answer}
use Rattle.rows.specs.Reading.{handed_out}
use Rattle.rows.specs.Updating.{nth_row_answer, table_updated, update_with}
use Rattle.rows.specs.Masked.{place_verdict, masked_verdict_of}
use Rattle.rows.proofs.Standing.{AllWide}
use Rattle.rows.proofs.Wide.{flatten-length, rows-count}
use Rattle.rows.proofs.Held.{table-means, run_inside, run-part}

-- ---- reading
module _ (rows : List (List ℕ)) (buffer : List ℕ) where
  pub handed-none : leb (length (flatten rows)) (length buffer) ≡ false → (Err Room, buffer) ≡ handed_out rows buffer
  unfolding handed_out
  handed-none e = rw e

  pub handed-done : (w : ℕ) → 0 < w → AllWide w rows → leb (length (flatten rows)) (length buffer) ≡ true
      → (after : List ℕ) (end : ℕ) → Written buffer 0 (flatten rows) after end → (Ok (end / w), after) ≡ handed_out rows buffer
  unfolding handed_out
  handed-done w positive wide e after end written =
      let stop : end ≡ length rows * w = written.stop ∙ zero-add (length (flatten rows)) ∙ flatten-length w rows wide in
      let count : end / w ≡ length rows = ap (λ (k : ℕ). k / w) stop ∙ mul-div_cancel (length rows) positive in
      rw e (ap₂ (λ (k : ℕ) (t : List ℕ). (Ok k, t)) count (written.bytes ∙ front buffer (flatten rows)))

-- ---- updating
module _ (im : List ℕ) (rights : Rights) (table : List ℕ) (w n : ℕ) (payload : List ℕ) where
  pub update-payload : (length payload ≡ w - 4 → ⊥) → (Err PayloadLength, table) ≡ update_with im rights table w n payload
  unfolding update_with nth_row_answer
  update-payload h = rw (ne_eqb (length payload) (w - 4) h)

  module _ (p : length payload ≡ w - 4) where
    pub update-none : length (readable_rows im rights table w) ≤ n
        → (Err NoRow, table) ≡ update_with im rights table w n payload
    unfolding update_with nth_row_answer
    update-none h = rw (eq-eqb (length payload) (w - 4) p, le-ltb n (length (readable_rows im rights table w)) h)

    module _ (h : n < length (readable_rows im rights table w)) where
      pub update-denied : row_writable im rights (get_or (readable_rows im rights table w) n []) ≡ false
          → (Err RowNotWritable, table) ≡ update_with im rights table w n payload
      unfolding update_with nth_row_answer
      update-denied d = rw (eq-eqb (length payload) (w - 4) p, lt-ltb n (length (readable_rows im rights table w)) h, d)

      pub update-done : row_writable im rights (get_or (readable_rows im rights table w) n []) ≡ true → (after : List ℕ)
          → after ≡ table_updated im rights table w n payload → ((Ok tt), after) ≡ update_with im rights table w n payload
      unfolding update_with nth_row_answer
      update-done d after a =
          rw (eq-eqb (length payload) (w - 4) p, lt-ltb n (length (readable_rows im rights table w)) h, d)
          (ap (λ (t : List ℕ). ((Ok tt), t)) a)

-- ---- the row at a place of a run
first-nth : (run : List ℕ) (w n k : ℕ) → k < n → get_or (first_rows run w n) k [] ≡ take w (drop (row_offset w k) run)
unfolding first_rows
first-nth run w zero k h = absurd (omega arith)
first-nth run w (suc n) zero h = rw zero-mul
first-nth run w (suc n) (suc k) h =
    let l : k < n = omega arith in
    let s : w + k * w ≡ suc k * w = omega (arith, suc-mul k w) in
    first-nth (drop w run) w n k l ∙ ap (take w) (drop-drop (k * w) w run ∙ ap (λ (m : ℕ). drop m run) s)

module _ (run : List ℕ) (w place : ℕ) (h : place < length run / w) where
  pub place_inside : row_offset w place + w ≤ length run
  place_inside =
      let m : suc place * w ≤ length run / w * w = mul-le-mul (omega arith) (le_refl w) in
      let s = suc-mul place w in
      let d = div-mul-le_self (length run) w in
      omega arith

  place-row : get_or (run_rows run w) place [] ≡ take w (drop (row_offset w place) run)
  unfolding run_rows
  place-row = first-nth run w (length run / w) place h

module _ (im : List ℕ) (rights : Rights) (run : List ℕ) (w place : ℕ) where
  pub place_none : length run / w ≤ place → Err NoRow ≡ place_verdict im rights (run_rows run w) place
  unfolding place_verdict
  place_none h = rw (rows-count run w, le-ltb place (length run / w) h)

  pub place-asked : place < length run / w → (at : ℕ) → at ≡ row_offset w place → (granted : Bool)
      → granted ≡ row_readable im rights (take (at + w - at) (drop at run)) → Ok granted ≡ place_verdict im rights (run_rows run w) place
  unfolding place_verdict
  place-asked h at there granted g =
      let row : take (at + w - at) (drop at run) ≡ take w (drop (row_offset w place) run) =
      ap₂ (λ (k o : ℕ). take k (drop o run)) (add-sub_cancel_left at w) there in
      rw (rows-count run w, lt-ltb place (length run / w) h, place-row run w place h) (ap Ok (g ∙ ap (row_readable im rights) row))

-- ---- the row at a place of a table
module _ (table : List ℕ) (w : ℕ) (e : table_rule table w ≡ true) (place : ℕ) (h : place < length (rows_of table w)) where
  in-run : place < length (table_run table w) / w
  unfolding rows_of
  in-run = rw (← rows-count (table_run table w) w) h

  -- it stands inside the table
  pub row_inside : run_start + row_offset w place + w ≤ length table
  row_inside =
      let inside = place_inside (table_run table w) w place in-run in
      let held = run_inside table w in
      omega arith

  -- what `masked_read` hands out of the table is its payload
  pub masked-payload : row_payload (get_or (rows_of table w) place []) ≡ part table (payload_offset w place) (payload_length w)
  unfolding rows_of
  masked-payload =
      let inside = place_inside (table_run table w) w place in-run in
      let low = (table-means table w e).wide in
      let fits : place * w + 4 + (w - 4) ≤ length (table_run table w) = omega arith in
      ap row_payload (place-row (table_run table w) w place in-run)
      ∙ drop-take 4 w (drop (place * w) (table_run table w))
      ∙ ap (take (w - 4)) (drop-drop 4 (place * w) (table_run table w))
      ∙ run-part table w (place * w + 4) (w - 4) fits
      ∙ ap (λ (k : ℕ). part table k (w - 4)) (sym (add_assoc run_start (place * w) 4))

-- where a row may be read, it stands inside the table
pub record Readable (table : List ℕ) (w place : ℕ) : Type 0 where
  pub low : 5 ≤ w
  pub inside : run_start + row_offset w place + w ≤ length table

abbrev is_yes : Verdict → Bool
is_yes (Ok true) = true
is_yes (Ok false) = false
is_yes (Err r) = false

pub masked-readable : (im : List ℕ) (s : SessionMarks) (table : List ℕ) (w place : ℕ) → masked_verdict_of im s table w place ≡ Ok true
    → Readable table w place
unfolding masked_verdict_of place_verdict table_answer
masked-readable im s table w place e =
    at (lent_answer im s) (table_rule table w) refl (ltb place (length (rows_of table w))) refl e
  where
    at : (c : Checked) (t : Bool) → table_rule table w ≡ t → (h : Bool) → ltb place (length (rows_of table w)) ≡ h
        → on_checked (on_checked c Err (or_refuse t TableShape (Ok tt))) Err
        (cond h (Ok (row_readable im (session_rights im s) (get_or (rows_of table w) place []))) (Err NoRow))
        ≡ (Ok true) → Readable table w place
    at (Ok tt) true r true h y =
        record { low = (table-means table w r).wide; inside = row_inside table w r place (ltb-true place (length (rows_of table w)) h) }
    at (Ok tt) true r false h y = absurd (true≢false (sym (ap is_yes y)))
    at (Ok tt) false r h g y = absurd (true≢false (sym (ap is_yes y)))
    at (Err q) t r h g y = absurd (true≢false (sym (ap is_yes y)))
