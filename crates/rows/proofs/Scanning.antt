-- Rows of a run one after the other, from an offset on. Assumes nothing.
use Prim.Native.Nat.{ℕ, zero-le, ◌+◌, ◌-◌, ◌%◌, ◌≤◌, ◌<◌}
use mathlib.Core.Path.{◌≡◌, refl, sym, ap, ◌∙◌}
use mathlib.Core.Bool.{Bool, true, false}
use mathlib.Core.List.{List, [], ◌∷◌}
use native.Mathlib.Nat.{add-sub_cancel_left, mod-eq-sub-mod, mod-eq_of_lt, sub-zero}
use native.Mathlib.Omega.{arith}
use lib.Dec.{ltb}
use lib.ListN.{length, take, drop, length-drop, drop_of_length-le}
use lib.Seq.{drop-drop, length-take-le}
use borrow.Author.Tests.{ltb-true, ltb-false}
use Rattle.rows.specs.Run.{IsRun, run_rows}
use Rattle.rows.proofs.Standing.{rows_end, rows_step}

-- a multiple that is not 0 is no less
multiple-long : (x w : ℕ) → 0 < x → x % w ≡ 0 → w ≤ x
multiple-long x w h m = at (ltb x w) refl
  where
    at : (t : Bool) → ltb x w ≡ t → w ≤ x
    at true e = let l = mod-eq_of_lt (ltb-true x w e) in absurd (omega arith)
    at false e = let l = ltb-false x w e in omega arith

-- from that offset on stand whole rows
pub record Rest (run : List ℕ) (w at : ℕ) : Type 0 where
  pub inside : at ≤ length run
  pub multiple : (length run - at) % w ≡ 0

module _ (run : List ℕ) (w : ℕ) (whole : IsRun run w) where
  positive : 0 < w
  positive = let low = whole.wide in omega arith

  pub rest-start : Rest run w 0
  rest-start = record { inside = zero-le; multiple = rw sub-zero whole.multiple }

  pub rest-room : (at : ℕ) → Rest run w at → at < length run → at + w ≤ length run
  rest-room at r h =
      let x : 0 < length run - at = omega arith in
      let l = multiple-long (length run - at) w x r.multiple in
      omega arith

  pub rest-next : (at : ℕ) → Rest run w at → at < length run → Rest run w (at + w)
  rest-next at r h =
      let l = rest-room at r h in
      let n : w ≤ length run - at = omega arith in
      let s : length run - at - w ≡ length run - (at + w) = omega arith in
      record { inside = l; multiple = sym (mod-eq-sub-mod n ∙ ap (λ (x : ℕ). x % w) s) ∙ r.multiple }

  -- the row at an offset, and the rows after it
  pub rows_at : (at : ℕ) → Rest run w at → at < length run
      → run_rows (drop at run) w ≡ take w (drop at run) ∷ run_rows (drop (at + w) run) w
  rows_at at r h =
      let l = rest-room at r h in
      let n : w ≤ length (drop at run) = rw length-drop (omega arith) in
      rows_step w positive (drop at run) n ∙ rw drop-drop

  pub rows_none : (at : ℕ) → length run ≤ at → run_rows (drop at run) w ≡ []
  rows_none at h = rows_end w positive (drop at run) (rw (drop_of_length-le run h) positive)

  pub row-wide : (at : ℕ) → Rest run w at → at < length run → length (take w (drop at run)) ≡ w
  row-wide at r h =
      let l = rest-room at r h in
      let n : w ≤ length (drop at run) = rw length-drop (omega arith) in
      length-take-le w (drop at run) n

  -- the slice of the code from an offset to the end of its row is that row, which has room for a tag
  pub row-part : (at : ℕ) → take (at + w - at) (drop at run) ≡ take w (drop at run)
  row-part at = rw add-sub_cancel_left

  pub row-long : (at : ℕ) → Rest run w at → at < length run → length (take (at + w - at) (drop at run)) ≡ w
  row-long at r h = ap length (row-part at) ∙ row-wide at r h

  pub row-tagged : (at : ℕ) → Rest run w at → at < length run → 4 ≤ length (take (at + w - at) (drop at run))
  row-tagged at r h = let l = row-long at r h in let low = whole.wide in omega arith
