-- One call of a user, made on two tables that are alike for that user. Assumes nothing.
use Prim.Native.Nat.{ℕ}
use mathlib.Core.Path.{◌≡◌, refl}
use mathlib.Core.Bool.{true}
use mathlib.Core.List.{List}
use borrow.Author.Tests.{eqb-true}
use Rattle.fields.proofs.Both.{both_left, both_right}
use Rattle.sessions.specs.Session.{SessionMarks}
use Rattle.rows.specs.Updating.{update_row_of}
use Rattle.isolation.specs.Calls.{LentAs, last, other, lent_session, row_step, step}
use Rattle.isolation.specs.Calls.{Call, opening, setting_label, setting_row_label, on_rows, reading, reading_mapped, updating}
use Rattle.isolation.specs.Calls.{Answer, row_done}
use Rattle.isolation.specs.Claim.{own_session, own_width, own_call, HiddenKept, started}
use Rattle.isolation.proofs.Agree.{Paired, read-agrees, read-mapped-agrees, update_agrees}
use Rattle.isolation.proofs.Alike.{kept_refl, update-hidden, update-paired}

-- the states after the call, made on either table with one session, and its one answer
pub record Next (im : List ℕ) (u : ℕ) (table1 table2 : List ℕ) (width : ℕ) (s : SessionMarks) (call : Call) : Type 0 where
  pub after1 : List ℕ
  pub after2 : List ℕ
  pub session : SessionMarks
  pub answer : Answer
  pub step1 : step im (started table1 s) call ≡ (started after1 session, answer)
  pub step2 : step im (started table2 s) call ≡ (started after2 session, answer)
  pub pair : Paired im u after1 after2 width
  pub kept1 : HiddenKept im u table1 after1 width
  pub kept2 : HiddenKept im u table2 after2 width

module _ (im : List ℕ) (u : ℕ) (table1 table2 : List ℕ) (width : ℕ) (pair : Paired im u table1 table2 width) (s : SessionMarks) where
  -- both runs lend the same session
  lent_same : (lent : LentAs) → lent_session (started table2 s) lent ≡ lent_session (started table1 s) lent
  lent_same last = refl
  lent_same (other x) = refl

  -- a call that leaves the tables
  tables-stay : (call : Call) (session : SessionMarks) (answer : Answer) → step im (started table1 s) call ≡ (started table1 session, answer)
      → step im (started table2 s) call ≡ (started table2 session, answer) → Next im u table1 table2 width s call
  tables-stay call session answer step1 step2 =
      record {
        after1 = table1;
        after2 = table2;
        session = session;
        answer = answer;
        step1 = step1;
        step2 = step2;
        pair = pair;
        kept1 = kept_refl im u width table1;
        kept2 = kept_refl im u width table2;
      }

  pub next : (call : Call) → own_call u (started table1 s) width call ≡ true → Next im u table1 table2 width s call
  unfolding step row_step own_call
  next (opening name) e = tables-stay (opening name) _ _ refl refl
  next (setting_label lent text) e = tables-stay (setting_label lent text) _ _ refl (rw (lent_same lent))
  next (setting_row_label lent text) e = tables-stay (setting_row_label lent text) _ _ refl (rw (lent_same lent))
  next (on_rows lent w (reading buffer)) e =
      let x = lent_session (started table1 s) lent in
      let own = eqb-true x.user u (both_left (own_session u x) (own_width width w) e) in
      let named = both_right (own_session u x) (own_width width w) e in
      tables-stay (on_rows lent w (reading buffer)) s _ refl
      (rw (lent_same lent, read-agrees im u table1 table2 width pair x own w named buffer))
  next (on_rows lent w (reading_mapped bits buffer)) e =
      let x = lent_session (started table1 s) lent in
      let own = eqb-true x.user u (both_left (own_session u x) (own_width width w) e) in
      let named = both_right (own_session u x) (own_width width w) e in
      tables-stay (on_rows lent w (reading_mapped bits buffer)) s _ refl
      (rw (lent_same lent, read-mapped-agrees im u table1 table2 width pair x own w named bits buffer))
  next (on_rows lent w (updating n payload)) e =
      let x = lent_session (started table1 s) lent in
      let own = eqb-true x.user u (both_left (own_session u x) (own_width width w) e) in
      let named = both_right (own_session u x) (own_width width w) e in
      record {
        after1 = (update_row_of im x table1 w n payload).1;
        after2 = (update_row_of im x table2 w n payload).1;
        session = s;
        answer = row_done (update_row_of im x table1 w n payload).0;
        step1 = refl;
        step2 = rw (lent_same lent, update_agrees im u table1 table2 width pair x own w named n payload);
        pair = update-paired im u width x own w named n payload table1 table2 pair;
        kept1 = update-hidden im u width x own w named n payload table1;
        kept2 = update-hidden im u width x own w named n payload table2;
      }
