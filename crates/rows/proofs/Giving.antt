-- What a lent session and table give. Assumes nothing.
use Rattle.std.proofs.Common.{Ok, Err}
use Rattle.sessions.specs.Lent.{LentView}
use Prim.Native.Nat.{ℕ}
use mathlib.Core.Path.{◌≡◌, refl, ap, ◌∙◌, subst}
use mathlib.Core.Bool.{Bool, true, false}
use mathlib.Core.List.{List}
use Rattle.refusals.specs.declared.Refusal.{Refusal}
use Rattle.refusals.specs.declared.Refusal.TheVariants.{TableShape}
use Rattle.refusals.specs.Answers.{on_checked, or_refuse, Checked}
use Rattle.image.proofs.Accepted.{refused-not}
use Rattle.access.specs.Rights.{rights_of}
use Rattle.access.specs.declared.rights.View.{View}
use Rattle.sessions.specs.Session.{SessionMarks, lent_answer, session_rights}
use Rattle.sessions.proofs.Accepting.{lent-accepted}
use Rattle.rows.specs.Table.{table_rule, table_shape, table_answer}
use Rattle.rows.specs.Scan.{TableGives}

module _ (im : List ℕ) (s : SessionMarks) (table : List ℕ) (w : ℕ) where
  -- ---- how `table_rights` comes to its answer
  pub refused-first : (r : Refusal) → lent_answer im s ≡ Err r → table_answer im s table w ≡ Err r
  unfolding table_answer
  refused-first r e = rw e

  pub refused-shape : lent_answer im s ≡ (Ok tt) → table_rule table w ≡ false → table_answer im s table w ≡ Err TableShape
  unfolding table_answer
  refused-shape a e = rw (a, e)

  pub gives_at : (v : View) → lent_answer im s ≡ (Ok tt) → rights_of v ≡ session_rights im s → table_rule table w ≡ true
      → TableGives im s table w (Ok v)
  unfolding table_answer
  gives_at v a g e = (rw (a, e), (record { accepted = lent-accepted im s a; rule = e }, g))

  -- ---- what it gives, case by case
  module _ (l : LentView) where
    pub table_at : (v : View) → l ≡ Ok v → TableGives im s table w l → TableGives im s table w (Ok v)
    table_at v e g = subst (λ (x : LentView). TableGives im s table w x) e g

    table-refused : (r : Refusal) → l ≡ Err r → TableGives im s table w l → table_answer im s table w ≡ Err r
    table-refused r e g = subst (λ (x : LentView). TableGives im s table w x) e g

    -- a refused image, session or table gives the refusal and nothing else, whatever the call answers
    pub call-refused : {A : Type 0} (refuse : Refusal → A) (answer : A) (r : Refusal) → l ≡ Err r → TableGives im s table w l
        → refuse r ≡ on_checked (table_answer im s table w) refuse answer
    call-refused refuse answer r e g = rw (table-refused r e g)

-- ---- what is seen of an answer comes from what is seen of its cases
pub seen_of : {A B : Type 0} (see : A → B) (c : Checked) (refuse : Refusal → A) (answer : A)
    → see (on_checked c refuse answer) ≡ on_checked c (λ r. see (refuse r)) (see answer)
seen_of see (Ok tt) refuse answer = refl
seen_of see (Err r) refuse answer = refl

-- where a check comes out the same and an accepted one is followed by equal answers, the whole answers are equal
pub answers_agree : {A : Type 0} (refuse : Refusal → A) (answer1 answer2 : A) (c d : Checked) → c ≡ d
    → (c ≡ (Ok tt) → answer1 ≡ answer2) → on_checked c refuse answer1 ≡ on_checked d refuse answer2
answers_agree refuse answer1 answer2 c d same agree = at c agree ∙ ap (λ (x : Checked). on_checked x refuse answer2) same
  where
    at : (x : Checked) → (x ≡ (Ok tt) → answer1 ≡ answer2) → on_checked x refuse answer1 ≡ on_checked x refuse answer2
    at (Ok tt) agree = agree refl
    at (Err r) agree = refl

-- ---- what an accepted answer tells
pub shape-accepted : (table : List ℕ) (w : ℕ) → table_shape table w ≡ (Ok tt) → table_rule table w ≡ true
shape-accepted table w = at (table_rule table w)
  where
    at : (t : Bool) → or_refuse t TableShape (Ok tt) ≡ (Ok tt) → t ≡ true
    at true e = refl
    at false e = absurd (refused-not TableShape e)

module _ (im : List ℕ) (s : SessionMarks) (table : List ℕ) (w : ℕ) where
  pub table-accepted : table_answer im s table w ≡ (Ok tt) → (lent_answer im s ≡ Ok tt) × (table_rule table w ≡ true)
  unfolding table_answer
  table-accepted = at (lent_answer im s)
    where
      at : (c : Checked) → on_checked c Err (table_shape table w) ≡ (Ok tt) → (c ≡ Ok tt) × (table_rule table w ≡ true)
      at (Ok tt) e = (refl, shape-accepted table w e)
      at (Err r) e = absurd (refused-not r e)
