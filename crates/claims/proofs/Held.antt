-- Any bytes stand for a session by value: that which they hold, or, where they name two users, one that 19 refuses as it refuses them. Each
-- C function on the bytes answers what the call on that session answers. Assumes nothing.
use Rattle.std.proofs.Common.{Ok, Err}
use Prim.Native.Nat.{ℕ, ◌^◌}
use mathlib.Core.Path.{◌≡◌, refl, sym, ap, ◌∙◌}
use mathlib.Core.Bool.{Bool, true, false, cond}
use mathlib.Core.List.{List}
use native.Mathlib.Omega.{arith}
use borrow.Author.Tests.{le-ltb}
use Rattle.fields.specs.Bytes.{byte_at}
use Rattle.refusals.specs.declared.Refusal.{Refusal}
use Rattle.refusals.specs.declared.Refusal.TheVariants.{SessionRules}
use Rattle.refusals.specs.Answers.{on_checked, or_refuse, checked_given, code_of, answer_of, Checked, amount_given}
use Rattle.image.specs.Check.{check_of, IsAccepted}
use Rattle.labels.specs.Label.{marks}
use Rattle.access.specs.NewLabels.{session_rule}
use Rattle.sessions.specs.Session.{SessionMarks, session_marks, lent_answer}
use Rattle.sessions.specs.Opening as opening
use Rattle.sessions.specs.Opening.{Opening, open_of}
use Rattle.sessions.specs.Changes.{set_label_of, set_row_label_of}
use Rattle.rows.specs.Reading.{read_rows_of}
use Rattle.rows.specs.Mapped.{read_mapped_of}
use Rattle.rows.specs.Updating.{update_row_of}
use Rattle.encoding.specs.Sessions.{session_in, one_user, Holds, changed_into}
use Rattle.abi.specs.Answers.{coded, after_check, with_session}
use Rattle.abi.specs.Sessions.{opened_given, opened_into, change_answer, set_label_answer, set_row_label_answer}
use Rattle.abi.specs.Tables.{read_answer, update_answer}
use Rattle.abi.specs.Maps.{read_mapped_answer}
use Rattle.abi.proofs.Widths.{rule-widths}
use Rattle.abi.proofs.Refusing.{set-label-refused, set-row-label-refused, read-refused, read-mapped-refused, update-refused}
use Rattle.abi.proofs.InBytes.{open-holds, set-label-holds, set-row-label-holds}
use Rattle.claims.specs.CFunctions.{when_done}
use Rattle.isolation.specs.Calls.{session_after}

-- a session of that user with a level past the 255th, which no image has
abbrev pub unfit_of : ℕ → SessionMarks
unfit_of u = session_marks u (marks 256 0 0) (marks 0 0 0)

-- the session that stands for the bytes
abbrev pub held_as : List ℕ → SessionMarks
held_as bytes = cond (one_user bytes) (session_in bytes) (unfit_of (byte_at bytes 0))

pub held-user : (bytes : List ℕ) → (held_as bytes).user ≡ byte_at bytes 0
unfolding session_in
held-user bytes = at (one_user bytes)
  where
    at : (t : Bool) → (cond t (session_in bytes) (unfit_of (byte_at bytes 0))).user ≡ byte_at bytes 0
    at true = refl
    at false = refl

pub holds-held : (bytes : List ℕ) (s : SessionMarks) → Holds bytes s → held_as bytes ≡ s
holds-held bytes s h = rw (h.one, h.session)

-- 19 after 1, 2, 31 to 35
module _ (im : List ℕ) (u : ℕ) where
  unfit-rule : IsAccepted im → session_rule im (unfit_of u).user (unfit_of u).label (unfit_of u).row ≡ false
  unfit-rule acc = at (session_rule im (unfit_of u).user (unfit_of u).label (unfit_of u).row) refl
    where
      at : (t : Bool) → session_rule im (unfit_of u).user (unfit_of u).label (unfit_of u).row ≡ t → t ≡ false
      at true e = let small = (rule-widths im acc (unfit_of u) e).label.level in absurd (omega (arith, small))
      at false e = refl

  pub unfit-refused : lent_answer im (unfit_of u) ≡ Err (after_check im SessionRules)
  unfolding lent_answer
  unfit-refused = at (check_of im) refl
    where
      at : (c : Checked) → check_of im ≡ c
          → on_checked c Err (or_refuse (session_rule im (unfit_of u).user (unfit_of u).label (unfit_of u).row) SessionRules (Ok tt))
          ≡ Err (on_checked c (λ q. q) SessionRules)
      at (Ok tt) e = rw (unfit-rule e)
      at (Err r) e = refl

-- ---- calls that refuse as soon as the session is refused
module _ (im bytes : List ℕ) where
  with-held : {A : Type 0} (refuse : Refusal → A) (answer : SessionMarks → A)
      → ((s : SessionMarks) (r : Refusal) → lent_answer im s ≡ Err r → answer s ≡ refuse r)
      → with_session im bytes refuse answer ≡ answer (held_as bytes)
  with-held {A} refuse answer refused = at (one_user bytes)
    where
      at : (t : Bool)
          → cond t (answer (session_in bytes)) (refuse (after_check im SessionRules)) ≡ answer (cond t (session_in bytes) (unfit_of (byte_at bytes 0)))
      at true = refl
      at false = sym (refused (unfit_of (byte_at bytes 0)) (after_check im SessionRules) (unfit-refused im (byte_at bytes 0)))

  pub read_as : (table : List ℕ) (w : ℕ) (buffer : List ℕ)
      → ◌≡◌ {A = ℕ × List ℕ} (read_answer im bytes table w buffer) (coded amount_given (read_rows_of im (held_as bytes) table w buffer))
  read_as table w buffer =
      ap (coded amount_given)
      (with-held (λ r. (Err r, buffer)) (λ s. read_rows_of im s table w buffer) (λ s r e. read-refused im s r e table w buffer))

  pub read-mapped-as : (table : List ℕ) (w : ℕ) (bits buffer : List ℕ)
      → ◌≡◌ {A = ℕ × List ℕ} (read_mapped_answer im bytes table w bits buffer) (coded amount_given (read_mapped_of im (held_as bytes) table w bits buffer))
  read-mapped-as table w bits buffer =
      ap (coded amount_given)
      (with-held (λ r. (Err r, buffer)) (λ s. read_mapped_of im s table w bits buffer) (λ s r e. read-mapped-refused im s r e table w bits buffer))

  pub update-as : (table : List ℕ) (w n : ℕ) (payload : List ℕ)
      → ◌≡◌ {A = ℕ × List ℕ} (update_answer im bytes table w n payload) (coded checked_given (update_row_of im (held_as bytes) table w n payload))
  update-as table w n payload =
      ap (coded checked_given)
      (with-held (λ r. (Err r, table)) (λ s. update_row_of im s table w n payload) (λ s r e. update-refused im s r e table w n payload))

  -- ---- label changes: what is told, and the session that the bytes after it stand for
  module _ (change : SessionMarks → SessionMarks × Checked)
      (refused : (s : SessionMarks) (r : Refusal) → lent_answer im s ≡ Err r → change s ≡ (s, Err r)) where
    unfit-change : change (unfit_of (byte_at bytes 0)) ≡ (unfit_of (byte_at bytes 0), Err (after_check im SessionRules))
    unfit-change = refused (unfit_of (byte_at bytes 0)) (after_check im SessionRules) (unfit-refused im (byte_at bytes 0))

    change-as : ◌≡◌ {A = ℕ × List ℕ} (change_answer im bytes change) (changed_into (change (held_as bytes)).0 (change (held_as bytes)).1 bytes)
    change-as = at (one_user bytes)
      where
        at : (t : Bool)
            → let changed = cond t (change (session_in bytes)) (session_in bytes, Err (after_check im SessionRules)) in
            let s = cond t (session_in bytes) (unfit_of (byte_at bytes 0)) in
            ◌≡◌ {A = ℕ × List ℕ} (changed_into changed.0 changed.1 bytes) (changed_into (change s).0 (change s).1 bytes)
        at true = refl
        at false = rw unfit-change

    change-left : (Holds bytes (session_in bytes) → Holds (change_answer im bytes change).1 (change (session_in bytes)).0)
        → held_as (change_answer im bytes change).1 ≡ (change (held_as bytes)).0
    change-left holds = at (one_user bytes) refl
      where
        at : (t : Bool) → one_user bytes ≡ t → held_as (change_answer im bytes change).1 ≡ (change (held_as bytes)).0
        at true e =
            let one : held_as bytes ≡ session_in bytes = rw e in
            holds-held (change_answer im bytes change).1 (change (session_in bytes)).0 (holds (record { one = e; session = refl }))
            ∙ ap (λ (s : SessionMarks). (change s).0) (sym one)
        at false e =
            let two : held_as bytes ≡ unfit_of (byte_at bytes 0) = rw e in
            let same : (change_answer im bytes change).1 ≡ bytes = rw e in
            ap held_as same ∙ two ∙ sym (ap (λ (p : SessionMarks × Checked). p.0) unfit-change) ∙ ap (λ (s : SessionMarks). (change s).0) (sym two)

  pub set-label-as : (text : List ℕ)
      → let new = set_label_of im (held_as bytes) text in ◌≡◌ {A = ℕ × List ℕ} (set_label_answer im bytes text) (changed_into new.0 new.1 bytes)
  set-label-as text = change-as (λ s. set_label_of im s text) (λ s r e. set-label-refused im s r e text)

  pub set-label-left : (text : List ℕ) → held_as (set_label_answer im bytes text).1 ≡ (set_label_of im (held_as bytes) text).0
  set-label-left text =
      change-left (λ s. set_label_of im s text) (λ s r e. set-label-refused im s r e text) (λ h. set-label-holds im bytes (session_in bytes) h text)

  pub set-row-label-as : (text : List ℕ)
      → let new = set_row_label_of im (held_as bytes) text in ◌≡◌ {A = ℕ × List ℕ} (set_row_label_answer im bytes text) (changed_into new.0 new.1 bytes)
  set-row-label-as text = change-as (λ s. set_row_label_of im s text) (λ s r e. set-row-label-refused im s r e text)

  pub set-row-label-left : (text : List ℕ) → held_as (set_row_label_answer im bytes text).1 ≡ (set_row_label_of im (held_as bytes) text).0
  set-row-label-left text =
      change-left (λ s. set_row_label_of im s text) (λ s r e. set-row-label-refused im s r e text)
      (λ h. set-row-label-holds im bytes (session_in bytes) h text)

-- ---- what is handed out
-- a refusal's number hands nothing out
pub refusal-handed : (r : Refusal) (out otherwise : List ℕ) → when_done (answer_of r) out otherwise ≡ otherwise
refusal-handed r out otherwise = rw (le-ltb (answer_of r) (2 ^ 63) (omega arith))

-- an opening that is done hands its session out, and its number tells it
pub opened-handed : (answer : Opening) (old otherwise : List ℕ)
    → when_done (code_of (opened_given answer)) (opened_into answer old) otherwise ≡ opened_into answer otherwise
opened-handed (opening.session s) old otherwise = refl
opened-handed (opening.refused r) old otherwise = refusal-handed r old otherwise

-- and leaves bytes that stand for it
pub opened-held : (im name lately : List ℕ) → held_as (opened_into (open_of im name) lately) ≡ session_after (open_of im name) (held_as lately)
opened-held im name lately = at (open_of im name) refl
  where
    at : (answer : Opening) → open_of im name ≡ answer → held_as (opened_into answer lately) ≡ session_after answer (held_as lately)
    at (opening.session t) e = let done = open-holds im name lately t e in holds-held (opened_into (opening.session t) lately) t (rw e at done)
    at (opening.refused r) e = refl
