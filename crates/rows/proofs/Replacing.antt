-- A text written over a part of the n-th row that passes a test. Assumes nothing.
use Prim.Native.Nat.{ℕ, ◌+◌, ◌-◌, ◌≤◌, ◌<◌}
use mathlib.Core.Path.{◌≡◌, sym, ap, ap₂, subst, ◌∙◌}
use mathlib.Core.Bool.{Bool, true}
use mathlib.Core.Logic.{⊎_elim}
use mathlib.Core.List.{List, [], ◌∷◌, ◌++◌, flatten, append_assoc, append-nil}
use native.Mathlib.Nat.{le_of_eq, zero-add, add-sub_cancel_left}
use native.Mathlib.Omega.{arith}
use lib.ListN.{length, take, drop, get_or, length-append, drop_of_length-le}
use lib.Seq.{drop-append_seam, take_at}
use Rattle.access.specs.Rights.{Rights}
use Rattle.buffers.specs.Pasting.{pasted}
use Rattle.buffers.proofs.Pasted.{pasted_length, pasted-inside}
use Rattle.rows.specs.Run.{IsRun, run_rows, kept, offset_of, changed_nth}
use Rattle.rows.specs.Table.{table_run, with_run, rows_of, with_rows, table_changed, with_payload, row_readable, readable_rows, table_rule}
use Rattle.rows.specs.Updating.{table_updated}
use Rattle.rows.proofs.Standing.{AllWide, flat-whole, rows-wide}
use Rattle.rows.proofs.Wide.{flatten-append, wide-middle}
use Rattle.rows.proofs.Finding.{Located, Missing, located}
use Rattle.rows.proofs.Held.{held-means, run_inside, run-pasted}

-- ---- in a run: any test, any change that is a text written over a part of the row
module _ (test : List ℕ → Bool) (run : List ℕ) (w : ℕ) (whole : IsRun run w) (n at : ℕ) (found : at ≡ offset_of test n (run_rows run w)) where
  -- the row at that offset
  pub record NthRow : Type 0 where
    pub inside : at + w ≤ length run
    pub exists : n < length (kept test (run_rows run w))
    pub nth : get_or (kept test (run_rows run w)) n [] ≡ take (at + w - at) (drop at run)
    pub tagged : 4 ≤ length (take (at + w - at) (drop at run))
    pub changed : (change : List ℕ → List ℕ) (k : ℕ) (text : List ℕ) → k + length text ≤ w
        → ((row : List ℕ) → length row ≡ w → change row ≡ pasted row k text)
        → pasted run (at + k) text ≡ flatten (changed_nth test change n (run_rows run w))

  module _ (l : Located test n (run_rows run w)) where
    start : at ≡ length (flatten l.before)
    start = found ∙ l.offset

    parted : run ≡ flatten l.before ++ l.row ++ flatten l.after
    unfolding flatten
    parted =
        sym (flat-whole run w whole) ∙ ap flatten l.split ∙ flatten-append l.before (l.row ∷ l.after)
        ∙ sym (append_assoc (flatten l.before) l.row (flatten l.after))

    row-length : length l.row ≡ w
    row-length = wide-middle w l.before l.row l.after (subst (AllWide w) l.split (rows-wide run w whole))

    long : length run ≡ at + w + length (flatten l.after)
    long =
        ap length parted
        ∙ length-append (flatten l.before ++ l.row) (flatten l.after)
        ∙ ap (λ (k : ℕ). k + length (flatten l.after))
        (length-append (flatten l.before) l.row ∙ ap₂ ◌+◌ (sym start) row-length)

    row-there : take w (drop at run) ≡ l.row
    row-there =
        ap₂ (λ (k : ℕ) (t : List ℕ). take w (drop k t)) start (parted ∙ append_assoc (flatten l.before) l.row (flatten l.after))
        ∙ ap (take w) (drop-append_seam (flatten l.before) (l.row ++ flatten l.after))
        ∙ take_at l.row (flatten l.after) w row-length

    changed_row : (change : List ℕ → List ℕ) (k : ℕ) (text : List ℕ) → k + length text ≤ w
        → ((row : List ℕ) → length row ≡ w → change row ≡ pasted row k text)
        → pasted run (at + k) text ≡ flatten (changed_nth test change n (run_rows run w))
    unfolding flatten
    changed_row change k text fits same =
        let room : k + length text ≤ length l.row = rw row-length fits in
        ap₂ (λ (t : List ℕ) (i : ℕ). pasted t (i + k) text) parted start
        ∙ pasted-inside (flatten l.before) l.row (flatten l.after) k text room
        ∙ ap (λ (t : List ℕ). flatten l.before ++ t ++ flatten l.after) (sym (same l.row row-length))
        ∙ append_assoc (flatten l.before) (change l.row) (flatten l.after)
        ∙ sym (ap flatten (l.change change) ∙ flatten-append l.before (change l.row ∷ l.after))

    nth-row : NthRow
    nth-row =
        record {
          inside = let s = long in omega arith;
          exists = l.exists;
          nth = l.nth ∙ sym (ap (λ (k : ℕ). take k (drop at run)) (add-sub_cancel_left at w) ∙ row-there);
          tagged = let low = whole.wide in rw (add-sub_cancel_left, row-there, row-length) (omega arith);
          changed = changed_row;
        }

  pub nth-found : at < length run → NthRow
  nth-found h =
      ⊎_elim nth-row
      (λ (m : Missing test n (run_rows run w)).
      let s : at ≡ length run = found ∙ m.end ∙ ap length (flat-whole run w whole) in absurd (omega arith))
      (located test n (run_rows run w))

  pub nth-missing : length run ≤ at → length (kept test (run_rows run w)) ≤ n
  nth-missing h =
      ⊎_elim
      (λ (l : Located test n (run_rows run w)). let s = long l in let low = whole.wide in absurd (omega arith))
      (λ (m : Missing test n (run_rows run w)). m.none)
      (located test n (run_rows run w))

-- ---- in a table: the payload of the n-th readable row
-- a payload of width minus 4 bytes is written over the bytes after the tag
pub payload-pasted : (w : ℕ) (payload : List ℕ) → 4 + length payload ≡ w → (row : List ℕ) → length row ≡ w
    → with_payload payload row ≡ pasted row 4 payload
unfolding pasted
payload-pasted w payload fits row l =
    let none : drop (4 + length payload) row ≡ [] = drop_of_length-le row (le_of_eq (l ∙ sym fits)) in
    sym (ap (λ (t : List ℕ). take 4 row ++ payload ++ t) none ∙ append-nil (take 4 row ++ payload))

-- and leaves the row its length
pub payload-wide : (w : ℕ) (payload : List ℕ) → 4 + length payload ≡ w → (row : List ℕ) → length row ≡ w → length (with_payload payload row) ≡ w
payload-wide w payload fits row l =
    ap length (payload-pasted w payload fits row l) ∙ pasted_length row 4 payload (le_of_eq (fits ∙ sym l)) ∙ l

module _ (im : List ℕ) (rights : Rights) (table : List ℕ) (w : ℕ) (e : table_rule table w ≡ true) (run : List ℕ) (held : run ≡ table_run table w)
    (n at : ℕ) (found : at ≡ offset_of (row_readable im rights) n (run_rows run w)) where
  pub record TableRow : Type 0 where
    pub inside : at + w ≤ length run
    pub within : length run ≤ length table
    pub exists : n < length (readable_rows im rights table w)
    pub nth : get_or (readable_rows im rights table w) n [] ≡ take (at + w - at) (drop at run)
    pub tagged : 4 ≤ length (take (at + w - at) (drop at run))
    pub replaced : (payload : List ℕ) → length payload ≡ w - 4 → pasted table (at + 4) payload ≡ table_updated im rights table w n payload

  run-whole : IsRun run w
  run-whole = held-means table w e run held

  module _ (row : NthRow (row_readable im rights) run w run-whole n at found) where
    replaced-row : (payload : List ℕ) → length payload ≡ w - 4 → pasted table (at + 4) payload ≡ table_updated im rights table w n payload
    unfolding table_updated table_changed with_rows rows_of
    replaced-row payload p =
        let low = run-whole.wide in
        let fits : 4 + length payload ≡ w = omega arith in
        let room : at + 4 + length payload ≤ length (table_run table w) = rw (← held) (omega (arith, row.inside)) in
        ap (λ (k : ℕ). pasted table k payload) (sym (zero-add (at + 4)))
        ∙ run-pasted table w (at + 4) payload room
        ∙ ap (with_run table w)
        (rw (← held) (row.changed (with_payload payload) 4 payload (le_of_eq fits) (payload-pasted w payload fits)))

    table-row : TableRow
    unfolding readable_rows rows_of
    table-row =
        record {
          inside = row.inside;
          within = rw held (let i = run_inside table w in omega arith);
          exists = rw (← held) row.exists;
          nth = rw (← held) row.nth;
          tagged = row.tagged;
          replaced = replaced-row;
        }

  pub table-found : at < length run → TableRow
  table-found h = table-row (nth-found (row_readable im rights) run w run-whole n at found h)

  pub table-missing : length run ≤ at → length (readable_rows im rights table w) ≤ n
  unfolding readable_rows rows_of
  table-missing h = rw (← held) (nth-missing (row_readable im rights) run w run-whole n at found h)
