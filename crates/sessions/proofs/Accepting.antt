-- A lent session is accepted exactly if the image is and the session keeps its rules. Assumes nothing.
use Rattle.std.proofs.Common.{Ok, Err}
use Prim.Native.Nat.{ℕ, ◌≤◌, ◌<◌}
use mathlib.Core.Path.{◌≡◌, refl, subst}
use mathlib.Core.Bool.{Bool, true, false}
use mathlib.Core.List.{List}
use borrow.Author.Tests.{lt-ltb, le-ltb}
use Rattle.refusals.specs.declared.Refusal.{Refusal}
use Rattle.refusals.specs.declared.Refusal.TheVariants.{SessionRules}
use Rattle.header.specs.Layout.{users}
use Rattle.image.specs.Check.{check_of, IsAccepted}
use Rattle.refusals.specs.Answers.{on_checked, or_refuse, Checked}
use Rattle.image.proofs.Accepted.{refused-not}
use Rattle.access.specs.Rights.{Rights}
use Rattle.access.specs.NewLabels.{session_label_answer, row_label_answer, session_rule}
use Rattle.access.proofs.Answers.{SessionKept, session-means, means-session}
use Rattle.access.specs.declared.rights.View.{View}
use Rattle.sessions.specs.Session.{SessionMarks, lent_answer, session_rights}
use Rattle.sessions.specs.Lent.{LentGives, LentView}

module _ (im : List ℕ) (s : SessionMarks) where
  -- both at once
  lent-parts : (c : Checked) (t : Bool) → on_checked c Err (or_refuse t SessionRules (Ok tt)) ≡ (Ok tt) → (c ≡ Ok tt) × (t ≡ true)
  lent-parts (Ok tt) true e = (refl, refl)
  lent-parts (Ok tt) false e = absurd (refused-not SessionRules e)
  lent-parts (Err r) t e = absurd (refused-not r e)

  pub lent-accepted : lent_answer im s ≡ (Ok tt) → IsAccepted im
  unfolding lent_answer
  lent-accepted e = (lent-parts (check_of im) (session_rule im s.user s.label s.row) e).0

  pub lent-rule : lent_answer im s ≡ (Ok tt) → session_rule im s.user s.label s.row ≡ true
  unfolding lent_answer
  lent-rule e = (lent-parts (check_of im) (session_rule im s.user s.label s.row) e).1

  pub lent-means : lent_answer im s ≡ (Ok tt) → SessionKept im s.user s.label s.row
  lent-means e = session-means im s.user s.label s.row (lent-rule e)

  pub means-lent : IsAccepted im → SessionKept im s.user s.label s.row → lent_answer im s ≡ Ok tt
  unfolding lent_answer
  means-lent acc k = rw (acc, means-session im s.user s.label s.row k)

  -- 19 where a rule of sessions fails
  pub lent-broken : IsAccepted im → session_rule im s.user s.label s.row ≡ false → lent_answer im s ≡ Err SessionRules
  unfolding lent_answer
  lent-broken acc e = rw (acc, e)

  pub lent-whole : IsAccepted im → session_rule im s.user s.label s.row ≡ true → lent_answer im s ≡ Ok tt
  unfolding lent_answer
  lent-whole acc e = rw (acc, e)

  pub lent-user : lent_answer im s ≡ (Ok tt) → s.user < users im
  lent-user e = (lent-means e).user

-- 19 test by test, as `lent_accepted` asks: the user's place, the session label, the row label
module _ (im : List ℕ) (s : SessionMarks) (acc : IsAccepted im) where
  pub user-outside : users im ≤ s.user → lent_answer im s ≡ Err SessionRules
  unfolding session_rule
  user-outside h = lent-broken im s acc (rw (le-ltb s.user (users im) h))

  module _ (here : s.user < users im) (asked : Checked) (told : asked ≡ session_label_answer im s.user s.label s.row) where
    pub label-refused : (r : Refusal) → asked ≡ Err r → lent_answer im s ≡ Err SessionRules
    unfolding session_rule
    label-refused r e = lent-broken im s acc (rw (lt-ltb s.user (users im) here, ← told, e))

    module _ (accepted : asked ≡ Ok tt) (rights : Rights) (found : rights ≡ session_rights im s) (row : Checked)
        (rowTold : row ≡ row_label_answer rights s.row) where
      pub row-refused : (r : Refusal) → row ≡ Err r → lent_answer im s ≡ Err SessionRules
      unfolding session_rule
      row-refused r e = lent-broken im s acc (rw (lt-ltb s.user (users im) here, ← told, accepted, ← found, ← rowTold, e))

      pub row-accepted : row ≡ (Ok tt) → lent_answer im s ≡ Ok tt
      unfolding session_rule
      row-accepted e = lent-whole im s acc (rw (lt-ltb s.user (users im) here, ← told, accepted, ← found, ← rowTold, e))

-- what `lent_rights` gives, case by case
module _ (im table : List ℕ) (s : SessionMarks) (l : LentView) where
  pub lent_at : (v : View) → l ≡ Ok v → LentGives im table s l → LentGives im table s (Ok v)
  lent_at v e g = subst (λ (x : LentView). LentGives im table s x) e g

  pub lent-refused : (r : Refusal) → l ≡ Err r → LentGives im table s l → lent_answer im s ≡ Err r
  lent-refused r e g = subst (λ (x : LentView). LentGives im table s x) e g
