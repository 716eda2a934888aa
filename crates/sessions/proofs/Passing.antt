-- An opened session and a changed session always pass 19. Assumes nothing.
use Rattle.std.proofs.Common.{Ok, Err}
use Prim.Native.Nat.{ℕ, ◌<◌}
use mathlib.Core.Path.{◌≡◌, refl, sym, ap, subst}
use mathlib.Core.Bool.{Bool, true, false, cond, ◌&&◌, true≢false}
use mathlib.Core.List.{List}
use native.Mathlib.Omega.{arith}
use borrow.Author.Tests.{ltb-true}
use lib.Dec.{ltb}
use Rattle.sets.specs.Sets.{intersection, within, all_below}
use Rattle.sets.proofs.Within.{has_within, within-intersection}
use Rattle.header.specs.declared.profile.Profile.{Profile}
use Rattle.header.specs.declared.profile.Profile.TheVariants.{Tree, Release}
use Rattle.header.specs.Layout.{edition_of, profile_of, by_profile, groups, users, user_record}
use Rattle.records.specs.Fields.{read_compartments, write_compartments, default_compartments, row_compartments}
use Rattle.records.specs.Fields.{read_groups, write_groups, default_groups, row_groups}
use Rattle.records.proofs.MeaningLabels.{exist-holds}
use Rattle.records.proofs.MeaningUsers.{GroupsKept}
use Rattle.hierarchy.specs.Below.{below, reach}
use Rattle.image.specs.Check.{check_of, IsAccepted}
use Rattle.refusals.specs.Answers.{on_checked, allowed, Checked}
use Rattle.image.proofs.Accepted.{refused-not}
use Rattle.refusals.specs.declared.Refusal.{Refusal}
use Rattle.refusals.specs.declared.Refusal.TheVariants.{NoUser}
use Rattle.image.specs.Lookup.{user_of_name}
use Rattle.image.proofs.Policy.{SetsKept, user-kept, user-sets}
use Rattle.labels.specs.Label.{Marks}
use Rattle.labels.specs.Parse as parse
use Rattle.labels.specs.Parse.{Reading, read, read_text, refusal_of}
use Rattle.access.specs.Rights.{rights_at, write_compartments_of, write_groups_of}
use Rattle.access.specs.NewLabels.{session_groups_rule, session_label_answer, row_label_answer, session_rule}
use Rattle.access.proofs.Answers.{Inside, session-label-means, row-label-means, means-session}
use Rattle.sessions.specs.Session.{SessionMarks, lent_answer, session_rights}
use Rattle.sessions.specs.Opening.{Opening, session, refused, default_label, default_row_label, default_session, open_accepted, open_of}
use Rattle.sessions.specs.Changes.{change_if, change_to, after_lent, with_label, with_row_label, label_change, row_label_change, set_label_of, set_row_label_of}
use Rattle.sessions.proofs.Accepting.{lent-accepted, lent-means, means-lent}

-- a user's default groups and row groups keep the rules of sessions, by the profile
module _ (im rec : List ℕ) (kept : GroupsKept (edition_of im) (groups im) rec) where
  abbrev default : ℕ
  default = default_groups (edition_of im) rec

  abbrev row : ℕ
  row = row_groups (edition_of im) rec

  default-groups : (p : Profile) → SetsKept p im rec
      → by_profile p (within default (below im (read_groups (edition_of im) rec)))
      (within default (all_below (groups im)) && within (read_groups (edition_of im) rec) default)
      ≡ true
  default-groups Tree k = k.default_below_read
  default-groups Release k = rw (exist-holds default (groups im) kept.default_exist, k.read_in_default)

  row-groups : (p : Profile) → SetsKept p im rec
      → (within row (by_profile p (intersection (by_profile p (below im default) default)
      (by_profile p (below im (write_groups (edition_of im) rec)) (write_groups (edition_of im) rec))) (all_below (groups im)))
      && by_profile p true (within (by_profile p (below im default) default) row)) ≡ true
  row-groups Tree k =
      rw (within-intersection (below im default) (below im (write_groups (edition_of im) rec)) row k.row_below_default k.row_below_write)
  row-groups Release k = rw (exist-holds row (groups im) kept.row_exist, k.default_in_row)

module _ (im : List ℕ) (acc : IsAccepted im) (u : ℕ) (here : u < users im) where
  -- the record's default labels keep the rules of sessions
  default-inside : Inside (rights_at im u (default_label (edition_of im) (user_record im u))) (default_row_label (edition_of im) (user_record im u))
  unfolding rights_at default_label default_row_label write_compartments_of write_groups_of reach
  default-inside =
      let k = user-kept im acc u here in
      let r = user_record im u in
      record {
        level = k.levels_kept.row_default;
        compartments =
            within-intersection (default_compartments r) (write_compartments r) (row_compartments r)
            (has_within (row_compartments r) (default_compartments r) k.compartments_kept.row_in_default)
            (has_within (row_compartments r) (write_compartments r) k.compartments_kept.row_in_write);
        groups = row-groups im r k.groups_kept (profile_of im) (user-sets im acc u here);
      }

  pub default-passes : session_rule im u (default_label (edition_of im) (user_record im u)) (default_row_label (edition_of im) (user_record im u)) ≡ true
  unfolding default_row_label
  default-passes =
      let k = user-kept im acc u here in
      let r = user_record im u in
      means-session im u (default_label (edition_of im) r) (default_row_label (edition_of im) r)
      (record {
        user = here;
        session_label = unfold default_label in
            record {
              minimum = omega (arith, k.levels_kept.minimum_row, k.levels_kept.row_default);
              maximum = k.levels_kept.default_maximum;
              compartments = has_within (default_compartments r) (read_compartments r) k.compartments_kept.default_in_read;
              groups = unfold session_groups_rule in default-groups im r k.groups_kept (profile_of im) (user-sets im acc u here);
              inside = default-inside;
            };
        row_label = unfold rights_at in record { minimum = k.levels_kept.minimum_row; inside = default-inside };
      })

  pub default-lent : lent_answer im (default_session im u) ≡ Ok tt
  unfolding lent_answer default_session
  default-lent = rw (acc, default-passes)

-- ---- an opened session
-- what an opening is, as a session or not
abbrev opened_or : SessionMarks → Opening → SessionMarks
opened_or other (session s) = s
opened_or other (refused r) = other

abbrev is_session : Opening → Bool
is_session (session s) = true
is_session (refused r) = false

session-tells : (s t : SessionMarks) → session s ≡ session t → s ≡ t
session-tells s t e = ap (opened_or s) e

refused-not-session : (r : Refusal) (s : SessionMarks) → refused r ≡ session s → ⊥
refused-not-session r s e = true≢false (sym (ap is_session e))

pub opened-passes : (im name : List ℕ) (s : SessionMarks) → open_of im name ≡ session s → lent_answer im s ≡ Ok tt
unfolding open_of open_accepted
opened-passes im name s e = at (check_of im) refl (ltb (user_of_name im name) (users im)) refl e
  where
    at : (c : Checked) → check_of im ≡ c → (t : Bool) → ltb (user_of_name im name) (users im) ≡ t
        → on_checked c refused (cond t (session (default_session im (user_of_name im name))) (refused NoUser)) ≡ session s
        → lent_answer im s ≡ Ok tt
    at (Ok tt) a true h e =
        let d : default_session im (user_of_name im name) ≡ s = session-tells _ _ e in
        subst (λ (x : SessionMarks). lent_answer im x ≡ Ok tt) d
        (default-lent im a (user_of_name im name) (ltb-true _ _ h))
    at (Ok tt) a false h e = absurd (refused-not-session _ _ e)
    at (Err r) a t h e = absurd (refused-not-session _ _ e)

-- ---- a changed session
-- a change that is accepted has taken the new session, and the rule has accepted it
change-taken : (old new t : SessionMarks) (c : Checked) → change_if old c new ≡ (t, Ok tt) → (c ≡ Ok tt) × (new ≡ t)
change-taken old new t (Ok tt) e = (refl, ap (λ (p : SessionMarks × Checked). p.0) e)
change-taken old new t (Err r) e = absurd (refused-not r (ap (λ (p : SessionMarks × Checked). p.1) e))

text-taken : (old t : SessionMarks) (r : Reading Marks) (rule : Marks → Checked) (change : Marks → SessionMarks)
    → change_to old r rule change ≡ (t, Ok tt) → (m : Marks) × ((rule m ≡ Ok tt) × (change m ≡ t))
text-taken old t (read m) rule change e = (m, change-taken old (change m) t (rule m) e)
text-taken old t (parse.refused reason) rule change e = absurd (refused-not (refusal_of reason) (ap (λ (p : SessionMarks × Checked). p.1) e))

lent-taken : (im : List ℕ) (s t : SessionMarks) (change : SessionMarks × Checked) → after_lent im s change ≡ (t, Ok tt)
    → (lent_answer im s ≡ Ok tt) × (change ≡ (t, Ok tt))
lent-taken im s t change e = at (lent_answer im s) e
  where
    at : (c : Checked) → on_checked c (λ r. (s, Err r)) change ≡ (t, Ok tt) → (c ≡ Ok tt) × (change ≡ (t, Ok tt))
    at (Ok tt) e = (refl, e)
    at (Err r) e = absurd (refused-not r (ap (λ (p : SessionMarks × Checked). p.1) e))

pub label-changed-passes : (im text : List ℕ) (s t : SessionMarks) → set_label_of im s text ≡ (t, Ok tt) → lent_answer im t ≡ Ok tt
unfolding set_label_of label_change
label-changed-passes im text s t e =
    let lent = lent-taken im s t _ e in
    let taken = text-taken s t (read_text im text) (λ m. session_label_answer im s.user m s.row) (λ m. with_label s m) lent.1 in
    let old = lent-means im s lent.0 in
    let m = taken.0 in
    let new = session-label-means im s.user m s.row (ap allowed taken.1.0) in
    subst (λ (x : SessionMarks). lent_answer im x ≡ Ok tt) taken.1.1
    (means-lent im (with_label s m) (lent-accepted im s lent.0)
    (record {
      user = old.user;
      session_label = new;
      row_label = record { minimum = unfold rights_at in old.row_label.minimum; inside = new.inside };
    }))

pub row-label-changed-passes : (im text : List ℕ) (s t : SessionMarks) → set_row_label_of im s text ≡ (t, Ok tt) → lent_answer im t ≡ Ok tt
unfolding set_row_label_of row_label_change
row-label-changed-passes im text s t e =
    let lent = lent-taken im s t _ e in
    let taken = text-taken s t (read_text im text) (λ m. row_label_answer (session_rights im s) m) (λ m. with_row_label s m) lent.1 in
    let old = lent-means im s lent.0 in
    let m = taken.0 in
    let new = row-label-means (session_rights im s) m (ap allowed taken.1.0) in
    subst (λ (x : SessionMarks). lent_answer im x ≡ Ok tt) taken.1.1
    (means-lent im (with_row_label s m) (lent-accepted im s lent.0)
    (record {
      user = old.user;
      session_label =
          record {
            minimum = old.session_label.minimum;
            maximum = old.session_label.maximum;
            compartments = old.session_label.compartments;
            groups = old.session_label.groups;
            inside = new.inside;
          };
      row_label = new;
    }))
