-- The table after a session of a user changed the n-th row that it reads, in any way that keeps the row's length. Assumes nothing.
use Rattle.std.proofs.Common.{Ok}
use Prim.Native.Nat.{ℕ}
use mathlib.Core.Path.{◌≡◌, refl, sym, ◌∙◌}
use mathlib.Core.Bool.{Bool, true, false, true≢false}
use mathlib.Core.List.{List, []}
use lib.ListN.{length, get_or}
use Rattle.sessions.specs.Session.{SessionMarks, lent_answer, session_rights}
use Rattle.rows.specs.Run.{kept, changed_nth}
use Rattle.rows.specs.Table.{rows_of, table_changed, row_readable, table_rule}
use Rattle.rows.proofs.Standing.{AllWide}
use Rattle.rows.proofs.Held.{rule-by-length, table-wide, rows-again, with-length}
use Rattle.rows.proofs.Nth.{changed-length, changed-outside, changed-wide}
use Rattle.isolation.specs.Claim.{ever_readable, list_at_maximum, HiddenKept}
use Rattle.isolation.proofs.Keeping.{changed-inside}
use Rattle.isolation.proofs.Reach.{reads-ever}

-- a change keeps the length of every row of that width
abbrev pub KeepsWidth : ℕ → (List ℕ → List ℕ) → Type 0
KeepsWidth w change = (row : List ℕ) → length row ≡ w → length (change row) ≡ w

module _ (im : List ℕ) (u : ℕ) (table : List ℕ) (w : ℕ) (accepted : table_rule table w ≡ true) (s : SessionMarks) (own : s.user ≡ u)
    (lent : lent_answer im s ≡ Ok tt) (change : List ℕ → List ℕ) (keeps : KeepsWidth w change) (n : ℕ) where
  abbrev readable : List ℕ → Bool
  readable = row_readable im (session_rights im s)

  abbrev changed : List (List ℕ) → List (List ℕ)
  changed = changed_nth readable change n

  abbrev after : List ℕ
  after = table_changed readable change table w n

  all-wide : AllWide w (changed (rows_of table w))
  all-wide = changed-wide readable change w keeps n (rows_of table w) (table-wide table w accepted)

  -- its rows
  after-rows : rows_of after w ≡ changed (rows_of table w)
  unfolding table_changed
  after-rows = rows-again table w accepted (changed (rows_of table w)) all-wide (changed-length readable change n (rows_of table w))

  after-length : length after ≡ length table
  unfolding table_changed
  after-length = with-length table w accepted (changed (rows_of table w)) all-wide (changed-length readable change n (rows_of table w))

  pub after-accepted : table_rule after w ≡ true
  after-accepted = rule-by-length table after w after-length ∙ accepted

  -- its list at the maximum comes from the list before
  pub after_list : list_at_maximum im u after w ≡ kept (ever_readable im u) (changed (list_at_maximum im u table w))
  unfolding list_at_maximum
  after_list = rw after-rows (changed-inside readable (ever_readable im u) (reads-ever im u s own lent) change n (rows_of table w))

  not-readable : (row : List ℕ) → ever_readable im u row ≡ false → readable row ≡ false
  not-readable row h = at (readable row) refl
    where
      at : (t : Bool) → readable row ≡ t → t ≡ false
      at true e = absurd (true≢false (sym (reads-ever im u s own lent row e) ∙ h))
      at false e = refl

  pub after-hidden : HiddenKept im u table after w
  after-hidden =
      record {
        same_length = after-length;
        same_rows = λ k h hidden.
            rw after-rows (changed-outside readable change n (rows_of table w) k (not-readable (get_or (rows_of table w) k []) hidden));
      }
