-- Two accepted images that hold the same accept the same sessions, and give the same rights the same verdict on every tag that they know. A session's
-- rights are the same but for privileges. Assumes nothing.
use Rattle.std.proofs.Common.{Ok, Err}
use Prim.Native.Nat.{ℕ, ◌<◌}
use mathlib.Core.Path.{◌≡◌, refl, sym, ap, ap₂, ◌∙◌}
use mathlib.Core.Bool.{Bool, true, false, not, ◌&&◌}
use mathlib.Core.List.{List}
use native.Mathlib.Omega.{arith}
use borrow.Author.Tests.{ltb-true}
use lib.Dec.{eqb, ltb}
use Rattle.fields.specs.Scan.{first_bad}
use Rattle.fields.proofs.Scan.{bad-same-on}
use Rattle.header.specs.Layout.{edition_of, users, labels, user_record, label_record}
use Rattle.records.specs.Fields.{tag_of, read_groups, write_groups}
use Rattle.image.specs.Check.{IsAccepted}
use Rattle.image.specs.Lookup.{label_of_tag}
use Rattle.refusals.specs.declared.Refusal.{Refusal}
use Rattle.refusals.specs.declared.Refusal.TheVariants.{SessionRules}
use Rattle.refusals.specs.Answers.{or_refuse, allowed, on_checked, Checked}
use Rattle.labels.specs.Label.{Marks, label_at}
use Rattle.access.specs.Rights.{Rights, rights_at, write_compartments_of, write_groups_of, with_privileges}
use Rattle.access.specs.NewLabels.{row_inside, session_groups_rule, session_label_answer, row_label_answer, session_rule}
use Rattle.access.specs.Verdicts.{known_tag, may_read, may_write}
use Rattle.sessions.specs.Session.{SessionMarks, lent_answer, session_rights}
use Rattle.sessions.specs.Asking.{may_read_of, may_write_of}
use Rattle.moves.proofs.HoldsSame.{HoldsTheSame}
use Rattle.moves.proofs.SameGroups.{below_alike, reach-alike}

module _ {change : ℕ → ℕ} (im new : List ℕ) (same : HoldsTheSame change im new) where
  -- ---- what a session label gives a user
  -- the rights that the old image gives, with the privileges changed
  pub rights-after : (u : ℕ) → u < users im → (label : Marks)
      → rights_at new u label ≡ with_privileges (change (rights_at im u label).privileges) (rights_at im u label)
  unfolding rights_at write_compartments_of write_groups_of
  rights-after u h label =
      let k = same.user u h in
      rw (
        same.same_profile,
        same.same_groups,
        k.groups_write,
        reach-alike im new same label.groups,
        reach-alike im new same (write_groups (edition_of im) (user_record im u)),
        k.compartments_write,
        k.level_minimum,
        k.level_maximum,
        k.held,
      )

  label-answer-alike : (u : ℕ) → u < users im → (label row : Marks) → session_label_answer new u label row ≡ session_label_answer im u label row
  unfolding session_label_answer session_groups_rule row_inside
  label-answer-alike u h label row =
      let k = same.user u h in
      rw (
        rights-after u h label,
        k.groups_read,
        below_alike im new same (read_groups (edition_of im) (user_record im u)),
        same.same_profile,
        same.same_groups,
        k.compartments_read,
        k.level_minimum,
        k.level_maximum,
      )

  row-answer-alike : (u : ℕ) → u < users im → (label row : Marks)
      → row_label_answer (rights_at new u label) row ≡ row_label_answer (rights_at im u label) row
  unfolding row_label_answer
  row-answer-alike u h label row = rw (rights-after u h label)

  -- ---- the rules of a lent session
  pub session-alike : (u : ℕ) (label row : Marks) → session_rule new u label row ≡ session_rule im u label row
  unfolding session_rule
  session-alike u label row =
      ap (λ (n : ℕ). ltb u n && allowed (session_label_answer new u label row) && allowed (row_label_answer (rights_at new u label) row)) same.same_users
      ∙ at (ltb u (users im)) refl
    where
      at : (t : Bool) → ltb u (users im) ≡ t
          → (t && allowed (session_label_answer new u label row) && allowed (row_label_answer (rights_at new u label) row))
          ≡ (t && allowed (session_label_answer im u label row) && allowed (row_label_answer (rights_at im u label) row))
      at true e =
          let h = ltb-true u (users im) e in
          rw (label-answer-alike u h label row, row-answer-alike u h label row)
      at false e = refl

  -- a user who is not there has no session
  no-user : (u : ℕ) (label row : Marks) → ltb u (users im) ≡ false → session_rule im u label row ≡ false
  unfolding session_rule
  no-user u label row e = rw e

  -- ---- tags
  pub tag-alike : (tag : ℕ) → label_of_tag new tag ≡ label_of_tag im tag
  unfolding label_of_tag
  tag-alike tag =
      ap (λ (n : ℕ). first_bad (λ k. not (eqb (tag_of (label_record new k)) tag)) n 0) same.same_labels
      ∙ bad-same-on (λ k. not (eqb (tag_of (label_record new k)) tag)) (λ k. not (eqb (tag_of (label_record im k)) tag)) (labels im) 0
      (λ k low high. ap (λ (x : ℕ). not (eqb x tag)) (same.label k (omega arith)).tag)

  -- a tag is known to both or to none
  pub known_alike : (tag : ℕ) → known_tag new tag ≡ known_tag im tag
  unfolding known_tag
  known_alike tag = ap₂ ltb (tag-alike tag) same.same_labels

  pub label-at-alike : (k : ℕ) → k < labels im → label_at new k ≡ label_at im k
  unfolding label_at
  label-at-alike k h = let l = same.label k h in rw (l.level, l.compartments, l.groups)

  tagged-alike : (tag : ℕ) → known_tag im tag ≡ true → label_at new (label_of_tag new tag) ≡ label_at im (label_of_tag im tag)
  unfolding known_tag
  tagged-alike tag known = ap (label_at new) (tag-alike tag) ∙ label-at-alike (label_of_tag im tag) (ltb-true _ _ known)

  -- ---- verdicts on a known tag
  module _ (tag : ℕ) (known : known_tag im tag ≡ true) (rights : Rights) where
    pub reads-alike : may_read new rights tag ≡ may_read im rights tag
    unfolding may_read
    reads-alike = rw (known_alike tag, known, tagged-alike tag known)

    pub writes-alike : may_write new rights tag ≡ may_write im rights tag
    unfolding may_write
    writes-alike = rw (known_alike tag, known, tagged-alike tag known)

  -- ---- verdicts on any tag, where the edition is the same
  module _ (edition : edition_of new ≡ edition_of im) (tag : ℕ) (rights : Rights) where
    pub reads_same : may_read new rights tag ≡ may_read im rights tag
    unfolding may_read
    reads_same = at (known_tag im tag) refl
      where
        at : (t : Bool) → known_tag im tag ≡ t → may_read new rights tag ≡ may_read im rights tag
        at true e = reads-alike tag e rights
        at false e = rw (known_alike tag, e, edition)

    pub writes-same : may_write new rights tag ≡ may_write im rights tag
    unfolding may_write
    writes-same = at (known_tag im tag) refl
      where
        at : (t : Bool) → known_tag im tag ≡ t → may_write new rights tag ≡ may_write im rights tag
        at true e = writes-alike tag e rights
        at false e = rw (known_alike tag, e, edition)

-- ---- a lent session
-- of an accepted image: 19 unless the session meets its rules
lent_is : (im : List ℕ) → IsAccepted im → (s : SessionMarks)
    → lent_answer im s ≡ or_refuse (session_rule im s.user s.label s.row) SessionRules (Ok tt)
unfolding lent_answer
lent_is im acc s = rw acc

module _ {change : ℕ → ℕ} (im new : List ℕ) (same : HoldsTheSame change im new) (acc : IsAccepted im) (acc-new : IsAccepted new) where
  -- a session is accepted by both or refused by both, in the same way
  pub lent_alike : (s : SessionMarks) → lent_answer new s ≡ lent_answer im s
  lent_alike s =
      lent_is new acc-new s
      ∙ ap (λ (rule : Bool). or_refuse rule SessionRules (Ok tt)) (session-alike im new same s.user s.label s.row)
      ∙ sym (lent_is im acc s)

  -- what is asked of a session's rights is the same where it is so for the rights before and after
  pub ask-alike : {A : Type 0} (s : SessionMarks) (refuse : Refusal → A) (f g : Rights → A)
      → (let before = session_rights im s in f (with_privileges (change before.privileges) before) ≡ g before)
      → on_checked (lent_answer new s) refuse (f (session_rights new s)) ≡ on_checked (lent_answer im s) refuse (g (session_rights im s))
  ask-alike s refuse f g same_at = at (ltb s.user (users im)) refl
    where
      at : (t : Bool) → ltb s.user (users im) ≡ t
          → on_checked (lent_answer new s) refuse (f (session_rights new s)) ≡ on_checked (lent_answer im s) refuse (g (session_rights im s))
      at true e =
          ap₂ (λ (c : Checked) (r : Rights). on_checked c refuse (f r)) (lent_alike s)
          (rights-after im new same s.user (ltb-true s.user (users im) e) s.label)
          ∙ ap (on_checked (lent_answer im s) refuse) same_at
      at false e =
          let no : lent_answer im s ≡ Err SessionRules =
          lent_is im acc s ∙ ap (λ (rule : Bool). or_refuse rule SessionRules (Ok tt)) (no-user im new same s.user s.label s.row e) in
          rw (lent_alike s, no)

-- and so are the verdicts on a tag that a label carries, where privileges stay
module _ (im new : List ℕ) (same : HoldsTheSame (λ held. held) im new) (acc : IsAccepted im) (acc-new : IsAccepted new)
    (s : SessionMarks) (tag : ℕ) (known : known_tag im tag ≡ true) where
  pub may-read-alike : may_read_of new s tag ≡ may_read_of im s tag
  unfolding may_read_of
  may-read-alike =
      ask-alike im new same acc acc-new s Err (λ r. Ok (may_read new r tag)) (λ r. Ok (may_read im r tag))
      (ap Ok (reads-alike im new same tag known (session_rights im s)))

  pub may-write-alike : may_write_of new s tag ≡ may_write_of im s tag
  unfolding may_write_of
  may-write-alike =
      ask-alike im new same acc acc-new s Err (λ r. Ok (may_write new r tag)) (λ r. Ok (may_write im r tag))
      (ap Ok (writes-alike im new same tag known (session_rights im s)))
