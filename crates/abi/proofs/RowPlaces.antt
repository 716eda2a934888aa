-- The place that a refusal tells fits its 32 bits, for each call on tables; and a count of rows is below 2 ^ 63. Assumes nothing.
use Rattle.std.proofs.Common.{Ok, Err}
use Prim.Native.Nat.{ℕ, ◌*◌, ◌^◌, ◌≤◌, ◌<◌}
use mathlib.Core.Path.{◌≡◌, refl, subst}
use mathlib.Core.Bool.{Bool, true, false, cond}
use mathlib.Core.List.{List, [], flatten}
use native.Mathlib.Nat.{mul-le-mul, le_refl}
use native.Mathlib.Omega.{arith}
use borrow.Author.Tests.{leb-true}
use lib.Dec.{eqb, leb, ltb}
use lib.ListN.{length, get_or}
use Rattle.buffers.specs.Pasting.{at_front}
use Rattle.refusals.specs.declared.Refusal.{Refusal}
use Rattle.refusals.specs.declared.Refusal.TheVariants.{TableShape, PayloadLength, NoRow, RowNotWritable, Room, WrongMap}
use Rattle.refusals.specs.Answers.{on_checked, or_refuse, refusal_given, checked_given, verdict_given, PlaceFits, Amount, Checked, amount_given}
use Rattle.access.specs.Verdicts.{unknown_read}
use Rattle.maps.specs.Map.{map_rule}
use Rattle.sessions.specs.Session.{SessionMarks, lent_answer, session_rights}
use Rattle.rows.specs.Table.{table_rule, table_answer, rows_of, payload_length, row_readable, row_writable, readable_rows}
use Rattle.rows.specs.Run.{kept}
use Rattle.rows.specs.Reading.{handed_out, read_rows_of}
use Rattle.rows.specs.Mapped.{row_mapped, mapped_rows, read_mapped_of}
use Rattle.rows.specs.Updating.{nth_row_answer, update_with, update_row_of}
use Rattle.rows.specs.Masked.{place_verdict, masked_verdict_of}
use Rattle.rows.proofs.Standing.{AllWide}
use Rattle.rows.proofs.Wide.{kept-wide, flatten-length}
use Rattle.rows.proofs.Held.{table-means, table-wide, readable-wide}
use Rattle.rows.proofs.Giving.{table-accepted}
use Rattle.abi.proofs.Places.{lent_fits, verdict-fits}

-- ---- the place that a refusal tells fits its 32 bits
-- 13 has none
handed-fits : (rows : List (List ℕ)) (buffer : List ℕ) → PlaceFits (amount_given (handed_out rows buffer).0)
unfolding handed_out
handed-fits rows buffer = at (leb (length (flatten rows)) (length buffer)) (at_front (flatten rows) buffer)
  where
    at : (t : Bool) (done : List ℕ) → PlaceFits (amount_given (cond {A = Amount × List ℕ} t (Ok (length rows), done) (Err Room, buffer)).0)
    at true done = omega arith
    at false done = omega arith

module _ (im : List ℕ) (s : SessionMarks) (table : List ℕ) (w : ℕ) where
  table_fits : (r : Refusal) → table_answer im s table w ≡ Err r → PlaceFits (refusal_given r)
  unfolding table_answer
  table_fits r e = subst (λ (c : Checked). PlaceFits (checked_given c)) e (at (lent_answer im s) refl (table_rule table w))
    where
      at : (c : Checked) → lent_answer im s ≡ c → (t : Bool) → PlaceFits (checked_given (on_checked c Err (or_refuse t TableShape (Ok tt))))
      at (Ok tt) d true = omega arith
      at (Ok tt) d false = omega arith
      at (Err q) d t = lent_fits im s q d

  pub read_fits : (buffer : List ℕ) → PlaceFits (amount_given (read_rows_of im s table w buffer).0)
  unfolding read_rows_of
  read_fits buffer = at (table_answer im s table w) refl
    where
      rows : List (List ℕ)
      rows = readable_rows im (session_rights im s) table w

      at : (c : Checked) → table_answer im s table w ≡ c
          → PlaceFits (amount_given (on_checked {A = Amount × List ℕ} c (λ q. (Err q, buffer)) (handed_out rows buffer)).0)
      at (Ok tt) d = handed-fits rows buffer
      at (Err q) d = table_fits q d

  pub read-mapped-fits : (bits buffer : List ℕ) → PlaceFits (amount_given (read_mapped_of im s table w bits buffer).0)
  unfolding read_mapped_of
  read-mapped-fits bits buffer = at (table_answer im s table w) refl (map_rule im (session_rights im s) bits)
    where
      rows : List (List ℕ)
      rows = mapped_rows im bits (unknown_read im (session_rights im s)) table w

      at : (c : Checked) → table_answer im s table w ≡ c → (t : Bool)
          → PlaceFits (amount_given (on_checked {A = Amount × List ℕ} c (λ q. (Err q, buffer))
          (on_checked (or_refuse t WrongMap (Ok tt)) (λ q. (Err q, buffer)) (handed_out rows buffer))).0)
      at (Ok tt) d true = handed-fits rows buffer
      at (Ok tt) d false = omega arith
      at (Err q) d t = table_fits q d

  pub update-fits : (n : ℕ) (payload : List ℕ) → PlaceFits (checked_given (update_row_of im s table w n payload).0)
  unfolding update_row_of update_with nth_row_answer
  update-fits n payload = at (table_answer im s table w) refl
    where
      rules : (a b c : Bool) → PlaceFits (checked_given (or_refuse a PayloadLength (or_refuse b NoRow (or_refuse c RowNotWritable (Ok tt)))))
      rules true true true = omega arith
      rules true true false = omega arith
      rules true false c = omega arith
      rules false b c = omega arith

      at : (c : Checked) → table_answer im s table w ≡ c
          → PlaceFits (checked_given (on_checked {A = Checked × List ℕ} c (λ q. (Err q, table)) (update_with im (session_rights im s) table w n payload)).0)
      at (Ok tt) d =
          let readable = readable_rows im (session_rights im s) table w in
          rules (eqb (length payload) (payload_length w)) (ltb n (length readable)) (row_writable im (session_rights im s) (get_or readable n []))
      at (Err q) d = table_fits q d

  pub masked-fits : (place : ℕ) → PlaceFits (verdict_given (masked_verdict_of im s table w place))
  unfolding masked_verdict_of place_verdict
  masked-fits place = at (table_answer im s table w) refl
    where
      verdicts : (a b : Bool) → PlaceFits (verdict_given (cond a (Ok b) (Err NoRow)))
      verdicts true b = verdict-fits b
      verdicts false b = omega arith

      at : (c : Checked) → table_answer im s table w ≡ c
          → PlaceFits (verdict_given (on_checked c Err (place_verdict im (session_rights im s) (rows_of table w) place)))
      at (Ok tt) d =
          verdicts (ltb place (length (rows_of table w))) (row_readable im (session_rights im s) (get_or (rows_of table w) place []))
      at (Err q) d = table_fits q d

-- ---- a count is below 2 ^ 63, as a value of a call that is done has to be
abbrev count_of : Amount → ℕ
count_of (Ok count) = count
count_of (Err r) = 0

short : (w n m : ℕ) → n * w ≤ m → 5 ≤ w → m < 2 ^ 64 → n < 2 ^ 63
short w n m h low limit =
    let five : n * 5 ≤ n * w = mul-le-mul (le_refl n) low in
    omega (arith, five, h, limit)

handed-below : (w : ℕ) → 5 ≤ w → (rows : List (List ℕ)) → AllWide w rows → (buffer : List ℕ) → length buffer < 2 ^ 64
    → count_of (handed_out rows buffer).0 < 2 ^ 63
unfolding handed_out
handed-below w low rows wide buffer limit = at (leb (length (flatten rows)) (length buffer)) refl (at_front (flatten rows) buffer)
  where
    at : (t : Bool) → leb (length (flatten rows)) (length buffer) ≡ t → (done : List ℕ)
        → count_of (cond {A = Amount × List ℕ} t (Ok (length rows), done) (Err Room, buffer)).0 < 2 ^ 63
    at true fits done =
        let h : length rows * w ≤ length buffer = rw (← flatten-length w rows wide) (leb-true (length (flatten rows)) (length buffer) fits) in
        short w (length rows) (length buffer) h low limit
    at false fits done = omega arith

module _ (im : List ℕ) (s : SessionMarks) (table : List ℕ) (w : ℕ) where
  pub count-below : (buffer : List ℕ) → length buffer < 2 ^ 64 → count_of (read_rows_of im s table w buffer).0 < 2 ^ 63
  unfolding read_rows_of
  count-below buffer limit = at (table_answer im s table w) refl
    where
      rows : List (List ℕ)
      rows = readable_rows im (session_rights im s) table w

      at : (c : Checked) → table_answer im s table w ≡ c
          → count_of (on_checked {A = Amount × List ℕ} c (λ q. (Err q, buffer)) (handed_out rows buffer)).0 < 2 ^ 63
      at (Ok tt) d =
          let e = (table-accepted im s table w d).1 in
          handed-below w (table-means table w e).wide rows (readable-wide table w e im (session_rights im s)) buffer limit
      at (Err q) d = omega arith

  pub mapped-count-below : (bits buffer : List ℕ) → length buffer < 2 ^ 64 → count_of (read_mapped_of im s table w bits buffer).0 < 2 ^ 63
  unfolding read_mapped_of mapped_rows
  mapped-count-below bits buffer limit = at (table_answer im s table w) refl (map_rule im (session_rights im s) bits)
    where
      test : List ℕ → Bool
      test = row_mapped im bits (unknown_read im (session_rights im s))

      at : (c : Checked) → table_answer im s table w ≡ c → (t : Bool)
          → count_of (on_checked {A = Amount × List ℕ} c (λ q. (Err q, buffer))
          (on_checked (or_refuse t WrongMap (Ok tt)) (λ q. (Err q, buffer)) (handed_out (kept test (rows_of table w)) buffer))).0 < 2 ^ 63
      at (Ok tt) d true =
          let e = (table-accepted im s table w d).1 in
          handed-below w (table-means table w e).wide (kept test (rows_of table w)) (kept-wide test w (rows_of table w) (table-wide table w e)) buffer limit
      at (Ok tt) d false = omega arith
      at (Err q) d t = omega arith
