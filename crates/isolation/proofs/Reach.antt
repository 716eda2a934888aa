-- What an accepted session of a user reads is what that user could ever read, so it sees of a table only the list at the maximum.
-- Assumes nothing.
use Rattle.std.proofs.Common.{Ok}
use Prim.Native.Nat.{ℕ}
use mathlib.Core.Path.{◌≡◌, sym, ap, ◌∙◌, subst}
use mathlib.Core.Bool.{true}
use mathlib.Core.List.{List}
use Rattle.access.specs.Verdicts.{readable_at_maximum}
use Rattle.access.proofs.Maximum.{maximum-reads}
use Rattle.sessions.specs.Session.{SessionMarks, lent_answer, session_rights}
use Rattle.sessions.proofs.Accepting.{lent-accepted, lent-rule}
use Rattle.rows.specs.Run.{kept}
use Rattle.rows.specs.Table.{rows_of, row_tag, row_readable, readable_rows}
use Rattle.isolation.specs.Claim.{ever_readable, list_at_maximum}
use Rattle.isolation.proofs.Keeping.{kept-inside}

module _ (im : List ℕ) (u : ℕ) (s : SessionMarks) (own : s.user ≡ u) (lent : lent_answer im s ≡ Ok tt) where
  pub reads-ever : (row : List ℕ) → row_readable im (session_rights im s) row ≡ true → ever_readable im u row ≡ true
  reads-ever row e =
      subst (λ (x : ℕ). readable_at_maximum im x (row_tag row) ≡ true) own
      (maximum-reads im (lent-accepted im s lent) s.user s.label s.row (lent-rule im s lent) (row_tag row) e)

  pub readable-from-list : (w : ℕ) (table : List ℕ)
      → readable_rows im (session_rights im s) table w ≡ kept (row_readable im (session_rights im s)) (list_at_maximum im u table w)
  unfolding readable_rows list_at_maximum
  readable-from-list w table = kept-inside (row_readable im (session_rights im s)) (ever_readable im u) reads-ever (rows_of table w)

  -- equal lists, equal readable rows
  pub readable-equal : (w : ℕ) (table1 table2 : List ℕ) → list_at_maximum im u table1 w ≡ list_at_maximum im u table2 w
      → readable_rows im (session_rights im s) table1 w ≡ readable_rows im (session_rights im s) table2 w
  readable-equal w table1 table2 e =
      readable-from-list w table1 ∙ ap (kept (row_readable im (session_rights im s))) e ∙ sym (readable-from-list w table2)
