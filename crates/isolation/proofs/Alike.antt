-- A user's call that changes a row leaves two tables alike for that user, and leaves the rows that are hidden from that user. Assumes
-- nothing.
use Rattle.std.proofs.Common.{Ok, Err}
use Prim.Native.Nat.{ℕ, ◌+◌, ◌≤◌}
use mathlib.Core.Path.{◌≡◌, refl, sym, ap, ◌∙◌, subst}
use mathlib.Core.Bool.{Bool, true, false}
use mathlib.Core.List.{List}
use native.Mathlib.Omega.{arith}
use borrow.Author.Tests.{eqb-true}
use lib.Dec.{eqb}
use lib.ListN.{length}
use Rattle.refusals.specs.declared.Refusal.TheVariants.{PayloadLength}
use Rattle.refusals.specs.Answers.{on_checked, or_refuse, Checked}
use Rattle.image.proofs.Accepted.{refused-not}
use Rattle.sessions.specs.Session.{SessionMarks, lent_answer, session_rights}
use Rattle.rows.specs.Run.{kept, changed_nth}
use Rattle.rows.specs.Table.{table_changed, payload_length, with_payload, row_readable, readable_rows, table_rule, table_answer}
use Rattle.rows.specs.Updating.{nth_row_answer, table_updated, update_with, update_row_of}
use Rattle.rows.proofs.Held.{table-means, count-by-length}
use Rattle.rows.proofs.Replacing.{payload-wide}
use Rattle.rows.proofs.Giving.{table-accepted, seen_of}
use Rattle.isolation.specs.Claim.{ever_readable, own_width, HiddenKept}
use Rattle.isolation.proofs.Updated.{KeepsWidth, after-accepted, after_list, after-hidden}
use Rattle.isolation.proofs.Agree.{Paired, accepted-width, table-answers-agree, rows_agree}

-- ---- keeping hidden rows, over several calls
module _ (im : List ℕ) (u width : ℕ) where
  pub kept_refl : (table : List ℕ) → HiddenKept im u table table width
  kept_refl table = record { same_length = refl; same_rows = λ k h hidden. refl }

  pub kept_trans : (before between after : List ℕ) → HiddenKept im u before between width → HiddenKept im u between after width
      → HiddenKept im u before after width
  kept_trans before between after a b =
      record {
        same_length = b.same_length ∙ a.same_length;
        same_rows = λ k h hidden.
            let row = a.same_rows k h hidden in
            b.same_rows k (rw (count-by-length before between width a.same_length) h) (rw row hidden) ∙ row;
      }

-- ---- a call that changes the n-th row that the session reads
-- it answers by the rows that the session reads; where it accepts, the change keeps a row's length
module _ (im : List ℕ) (u width : ℕ) (s : SessionMarks) (own : s.user ≡ u) (w : ℕ) (named : own_width width w ≡ true)
    (answer : List (List ℕ) → Checked) (change : List ℕ → List ℕ)
    (keeps : 5 ≤ w → (rows : List (List ℕ)) → answer rows ≡ (Ok tt) → KeepsWidth w change) (n : ℕ) where
  -- the table after it
  abbrev changed : List ℕ → List ℕ
  changed table = table_changed (row_readable im (session_rights im s)) change table w n

  -- by the answer on the rows, where image, session and table are accepted
  abbrev row_answer : List ℕ → Checked
  row_answer table = answer (readable_rows im (session_rights im s) table w)

  abbrev after_row : List ℕ → Checked → List ℕ
  after_row table c = on_checked c (λ r. table) (changed table)

  -- by the answer on image, session and table
  abbrev after_call : List ℕ → Checked → List ℕ
  after_call table c = on_checked c (λ r. table) (after_row table (row_answer table))

  -- what an accepted call tells: image and session are accepted, 12 accepts the table at the named width, the change keeps the width
  record Taken (table : List ℕ) : Type 0 where
    lent : lent_answer im s ≡ Ok tt
    rule : table_rule table w ≡ true
    wide : KeepsWidth w change

  taken : (table : List ℕ) → table_answer im s table w ≡ (Ok tt) → row_answer table ≡ (Ok tt) → Taken table
  taken table e f =
      let a = table-accepted im s table w e in
      record { lent = a.0; rule = a.1; wide = keeps (table-means table w a.1).wide (readable_rows im (session_rights im s) table w) f }

  change-hidden : (table : List ℕ) → HiddenKept im u table (after_call table (table_answer im s table w)) width
  change-hidden table = at (table_answer im s table w) refl
    where
      at_row : table_answer im s table w ≡ (Ok tt) → (c : Checked) → row_answer table ≡ c → HiddenKept im u table (after_row table c) width
      at_row e (Ok tt) f =
          let t = taken table e f in
          subst (λ (x : ℕ). HiddenKept im u table (changed table) x) (accepted-width width w named table t.rule)
          (after-hidden im u table w t.rule s own t.lent change t.wide n)
      at_row e (Err r) f = kept_refl im u width table

      at : (c : Checked) → table_answer im s table w ≡ c → HiddenKept im u table (after_call table c) width
      at (Ok tt) e = at_row e (row_answer table) refl
      at (Err r) e = kept_refl im u width table

  change-paired : (table1 table2 : List ℕ) → Paired im u table1 table2 width
      → Paired im u (after_call table1 (table_answer im s table1 w)) (after_call table2 (table_answer im s table2 w)) width
  change-paired table1 table2 pair =
      at (table_answer im s table1 w) refl (table_answer im s table2 w)
      (table-answers-agree im u table1 table2 width pair s own w named) refl
    where
      both-changed : Taken table1 → Taken table2 → Paired im u (changed table1) (changed table2) width
      both-changed t1 t2 =
          let same = accepted-width width w named table1 t1.rule in
          let here : Paired im u table1 table2 w = rw same pair in
          let rows = changed_nth (row_readable im (session_rights im s)) change n in
          rw (← same)
          (record {
            first = after-accepted im u table1 w t1.rule s own t1.lent change t1.wide n;
            second = after-accepted im u table2 w t2.rule s own t2.lent change t2.wide n;
            lists =
                after_list im u table1 w t1.rule s own t1.lent change t1.wide n
                ∙ ap (λ (l : List (List ℕ)). kept (ever_readable im u) (rows l)) here.lists
                ∙ sym (after_list im u table2 w t2.rule s own t2.lent change t2.wide n);
          })

      at_row : table_answer im s table1 w ≡ (Ok tt) → table_answer im s table2 w ≡ Ok tt
          → (c : Checked) → row_answer table1 ≡ c → (d : Checked) → c ≡ d → row_answer table2 ≡ d
          → Paired im u (after_row table1 c) (after_row table2 d) width
      at_row e1 e2 (Ok tt) f1 d same f2 = rw (← same) (both-changed (taken table1 e1 f1) (taken table2 e2 (f2 ∙ sym same)))
      at_row e1 e2 (Err r) f1 d same f2 = rw (← same) pair

      at : (c : Checked) → table_answer im s table1 w ≡ c → (d : Checked) → c ≡ d → table_answer im s table2 w ≡ d
          → Paired im u (after_call table1 c) (after_call table2 d) width
      at (Ok tt) e1 d same e2 =
          rw (← same)
          (at_row e1 (e2 ∙ sym same) (row_answer table1) refl (row_answer table2)
          (ap answer (rows_agree im u table1 table2 width pair s own w named e1)) refl)
      at (Err r) e1 d same e2 = rw (← same) pair

-- ---- an update
payload-fits : (im : List ℕ) (s : SessionMarks) (w n : ℕ) (payload : List ℕ) (rows : List (List ℕ))
    → nth_row_answer im (session_rights im s) rows w n payload ≡ (Ok tt) → length payload ≡ payload_length w
unfolding nth_row_answer
payload-fits im s w n payload rows = at (eqb (length payload) (payload_length w)) refl _
  where
    at : (t : Bool) → eqb (length payload) (payload_length w) ≡ t → (rest : Checked) → or_refuse t PayloadLength rest ≡ Ok tt
        → length payload ≡ payload_length w
    at true h rest e = eqb-true _ _ h
    at false h rest e = absurd (refused-not PayloadLength e)

module _ (im : List ℕ) (u width : ℕ) (s : SessionMarks) (own : s.user ≡ u) (w : ℕ) (named : own_width width w ≡ true) (n : ℕ)
    (payload : List ℕ) where
  abbrev answer : List (List ℕ) → Checked
  answer rows = nth_row_answer im (session_rights im s) rows w n payload

  keeps : 5 ≤ w → (rows : List (List ℕ)) → answer rows ≡ (Ok tt) → KeepsWidth w (with_payload payload)
  keeps low rows e =
      let fits = payload-fits im s w n payload rows e in
      let whole : 4 + length payload ≡ w = omega arith in
      payload-wide w payload whole

  after-update : (table : List ℕ)
      → (update_row_of im s table w n payload).1
      ≡ after_call im u width s own w named answer (with_payload payload) keeps n table (table_answer im s table w)
  unfolding update_row_of update_with table_updated
  after-update table = seen_of (λ (x : Checked × List ℕ). x.1) (table_answer im s table w) (λ r. (Err r, table)) _

  pub update-hidden : (table : List ℕ) → HiddenKept im u table (update_row_of im s table w n payload).1 width
  update-hidden table = rw (after-update table) (change-hidden im u width s own w named answer (with_payload payload) keeps n table)

  pub update-paired : (table1 table2 : List ℕ) → Paired im u table1 table2 width
      → Paired im u (update_row_of im s table1 w n payload).1 (update_row_of im s table2 w n payload).1 width
  update-paired table1 table2 pair =
      rw (after-update table1, after-update table2)
      (change-paired im u width s own w named answer (with_payload payload) keeps n table1 table2 pair)
