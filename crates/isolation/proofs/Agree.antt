-- A row call of a user answers the same on two tables that are alike for that user. Assumes nothing.
use Rattle.std.proofs.Common.{Ok, Err}
use Prim.Native.Nat.{ℕ}
use mathlib.Core.Path.{◌≡◌, refl, sym, ap, ◌∙◌}
use mathlib.Core.Bool.{Bool, true, false, not, true≢false}
use mathlib.Core.Logic.{◌⊎◌, inl, inr}
use mathlib.Core.List.{List}
use borrow.Author.Tests.{eqb-true, not-true}
use lib.Dec.{eqb}
use Rattle.refusals.specs.declared.Refusal.{Refusal}
use Rattle.fields.proofs.Both.{either}
use Rattle.refusals.specs.Answers.{on_checked, Checked}
use Rattle.sessions.specs.Session.{SessionMarks, session_rights}
use Rattle.rows.specs.Table.{readable_rows, width_rule, table_rule, table_answer}
use Rattle.rows.specs.Reading.{handed_out, read_rows_of}
use Rattle.maps.specs.Calls.{map_answer}
use Rattle.rows.specs.Mapped.{read_mapped_of}
use Rattle.rows.specs.Updating.{nth_row_answer, update_with, update_row_of}
use Rattle.isolation.specs.Claim.{list_at_maximum, own_width}
use Rattle.rows.proofs.Giving.{table-accepted, seen_of, answers_agree}
use Rattle.rows.proofs.ByMap.{mapped-plain}
use Rattle.isolation.proofs.Reach.{readable-equal}

-- ---- tables that are alike for a user
pub record Paired (im : List ℕ) (u : ℕ) (table1 table2 : List ℕ) (width : ℕ) : Type 0 where
  pub first : table_rule table1 width ≡ true
  pub second : table_rule table2 width ≡ true
  pub lists : list_at_maximum im u table1 width ≡ list_at_maximum im u table2 width

-- the named width is the row width, or 12 refuses every table at it
pub named-width : (width w : ℕ) → own_width width w ≡ true → (w ≡ width) ⊎ ((table : List ℕ) → table_rule table w ≡ false)
unfolding table_rule
named-width width w e = at (either (eqb w width) (not (width_rule w)) e)
  where
    at : (eqb w width ≡ true) ⊎ (not (width_rule w) ≡ true) → (w ≡ width) ⊎ ((table : List ℕ) → table_rule table w ≡ false)
    at (inl h) = inl (eqb-true w width h)
    at (inr h) = inr (λ table. rw (not-true (width_rule w) h))

pub accepted-width : (width w : ℕ) → own_width width w ≡ true → (table : List ℕ) → table_rule table w ≡ true → w ≡ width
accepted-width width w e table a = at (named-width width w e)
  where
    at : (w ≡ width) ⊎ ((t : List ℕ) → table_rule t w ≡ false) → w ≡ width
    at (inl h) = h
    at (inr h) = absurd (true≢false (sym a ∙ h table))

module _ (im : List ℕ) (u : ℕ) (table1 table2 : List ℕ) (width : ℕ) (pair : Paired im u table1 table2 width) (s : SessionMarks)
    (own : s.user ≡ u) (w : ℕ) (named : own_width width w ≡ true) where
  rules-agree : table_rule table1 w ≡ table_rule table2 w
  rules-agree = at (named-width width w named)
    where
      at : (w ≡ width) ⊎ ((table : List ℕ) → table_rule table w ≡ false) → table_rule table1 w ≡ table_rule table2 w
      at (inl h) = rw h (pair.first ∙ sym pair.second)
      at (inr h) = h table1 ∙ sym (h table2)

  pub table-answers-agree : table_answer im s table1 w ≡ table_answer im s table2 w
  unfolding table_answer
  table-answers-agree = rw rules-agree

  -- where the first table is accepted, the session reads the same rows of both
  pub rows_agree : table_answer im s table1 w ≡ Ok tt
      → readable_rows im (session_rights im s) table1 w ≡ readable_rows im (session_rights im s) table2 w
  rows_agree e =
      let a = table-accepted im s table1 w e in
      let same = accepted-width width w named table1 a.1 in
      readable-equal im u s own a.0 w table1 table2 (rw same pair.lists)

  -- a call that answers by the rows that the session reads answers the same on both
  calls-agree : {A : Type 0} (refuse : Refusal → A) (answer : List (List ℕ) → A)
      → on_checked (table_answer im s table1 w) refuse (answer (readable_rows im (session_rights im s) table1 w))
      ≡ on_checked (table_answer im s table2 w) refuse (answer (readable_rows im (session_rights im s) table2 w))
  calls-agree refuse answer = answers_agree refuse _ _ _ _ table-answers-agree (λ e. ap answer (rows_agree e))

  pub read-agrees : (buffer : List ℕ) → read_rows_of im s table1 w buffer ≡ read_rows_of im s table2 w buffer
  unfolding read_rows_of
  read-agrees buffer = calls-agree (λ r. (Err r, buffer)) (λ rows. handed_out rows buffer)

  pub read-mapped-agrees : (bits buffer : List ℕ) → read_mapped_of im s table1 w bits buffer ≡ read_mapped_of im s table2 w bits buffer
  read-mapped-agrees bits buffer =
      mapped-plain im s table1 w bits buffer
      ∙ calls-agree (λ r. (Err r, buffer))
      (λ rows. on_checked (map_answer im (session_rights im s) bits) (λ r. (Err r, buffer)) (handed_out rows buffer))
      ∙ sym (mapped-plain im s table2 w bits buffer)

  pub update_agrees : (n : ℕ) (payload : List ℕ) → (update_row_of im s table1 w n payload).0 ≡ (update_row_of im s table2 w n payload).0
  unfolding update_row_of update_with
  update_agrees n payload =
      seen_of (λ (x : Checked × List ℕ). x.0) (table_answer im s table1 w) (λ r. (Err r, table1)) _
      ∙ calls-agree Err (λ rows. nth_row_answer im (session_rights im s) rows w n payload)
      ∙ sym (seen_of (λ (x : Checked × List ℕ). x.0) (table_answer im s table2 w) (λ r. (Err r, table2)) _)
