-- What an accepted answer of the rules for new labels means, and that labels which keep the rules are accepted. Assumes nothing.
use Rattle.std.proofs.Common.{Ok, Err}
use Prim.Native.Nat.{ℕ, ◌≤◌, ◌<◌}
use mathlib.Core.Path.{◌≡◌, refl, sym, ◌∙◌}
use mathlib.Core.Bool.{Bool, true, false, ◌&&◌, true≢false}
use mathlib.Core.List.{List}
use borrow.Author.Tests.{leb-true, le-leb, ltb-true, lt-ltb}
use lib.Dec.{leb}
use Rattle.fields.proofs.Both.{parts}
use Rattle.refusals.specs.declared.Refusal.{Refusal}
use Rattle.refusals.specs.declared.Refusal.TheVariants.{LevelNotAllowed, CompartmentsNotAllowed, GroupsNotAllowed, RowLabelOutside}
use Rattle.sets.specs.Sets.{within}
use Rattle.header.specs.Layout.{users, user_record}
use Rattle.records.specs.Fields.{maximum_level, minimum_level, read_compartments}
use Rattle.labels.specs.Label.{Marks}
use Rattle.access.specs.Rights.{Rights, rights_at, between}
use Rattle.access.specs.NewLabels.{session_groups_rule, row_groups_rule, row_inside, session_label_answer, row_label_answer, session_rule}
use Rattle.refusals.specs.Answers.{or_refuse, allowed, Checked}

-- a demand that is accepted was met, and so was the rest
demand-met : (rule : Bool) (r : Refusal) (rest : Checked) → allowed (or_refuse rule r rest) ≡ true → (rule ≡ true) × (allowed rest ≡ true)
demand-met true r rest e = (refl, e)
demand-met false r rest e = absurd (true≢false (sym e))

pub accepted-is : (c : Checked) → allowed c ≡ true → c ≡ Ok tt
accepted-is (Ok tt) e = refl
accepted-is (Err r) e = absurd (true≢false (sym e))

-- the row label stands inside the session's level and write sets
pub record Inside (rights : Rights) (row : Marks) : Type 0 where
  pub level : row.level ≤ rights.level
  pub compartments : within row.compartments rights.write_compartments ≡ true
  pub groups : row_groups_rule rights row.groups ≡ true

pub inside-means : (rights : Rights) (row : Marks) → row_inside rights row ≡ true → Inside rights row
unfolding row_inside
inside-means rights row e =
    let q2 = parts (leb row.level rights.level && within row.compartments rights.write_compartments) (row_groups_rule rights row.groups) e in
    let q1 = parts _ _ q2.0 in
    record { level = leb-true _ _ q1.0; compartments = q1.1; groups = q2.1 }

pub means-inside : (rights : Rights) (row : Marks) → Inside rights row → row_inside rights row ≡ true
unfolding row_inside
means-inside rights row k = rw (le-leb _ _ k.level, k.compartments, k.groups)

-- ---- a new session label
pub record SessionLabelKept (im : List ℕ) (u : ℕ) (new row : Marks) : Type 0 where
  pub minimum : minimum_level (user_record im u) ≤ new.level
  pub maximum : new.level ≤ maximum_level (user_record im u)
  pub compartments : within new.compartments (read_compartments (user_record im u)) ≡ true
  pub groups : session_groups_rule im (user_record im u) new.groups ≡ true
  pub inside : Inside (rights_at im u new) row

pub session-label-means : (im : List ℕ) (u : ℕ) (new row : Marks) → allowed (session_label_answer im u new row) ≡ true → SessionLabelKept im u new row
unfolding session_label_answer
session-label-means im u new row e =
    let q1 = demand-met _ _ _ e in
    let q2 = demand-met _ _ _ q1.1 in
    let q3 = demand-met _ _ _ q2.1 in
    let q4 = demand-met _ _ _ q3.1 in
    let level = parts _ _ q1.0 in
    record {
      minimum = leb-true _ _ level.0;
      maximum = leb-true _ _ level.1;
      compartments = q2.0;
      groups = q3.0;
      inside = inside-means (rights_at im u new) row q4.0;
    }

pub means-session-label : (im : List ℕ) (u : ℕ) (new row : Marks) → SessionLabelKept im u new row → session_label_answer im u new row ≡ Ok tt
unfolding session_label_answer
means-session-label im u new row k =
    rw (le-leb _ _ k.minimum, le-leb _ _ k.maximum, k.compartments, k.groups, means-inside (rights_at im u new) row k.inside)

-- the rules in turn, as `session_label_answer` asks them of the user's record: the first that fails gives its refusal
module _ (im : List ℕ) (u : ℕ) (new row : Marks) (rec : List ℕ) (user : rec ≡ user_record im u) (level : Bool)
    (l : level ≡ between (minimum_level rec) (maximum_level rec) new.level) where
  pub level-refused : level ≡ false → Err LevelNotAllowed ≡ session_label_answer im u new row
  unfolding session_label_answer
  level-refused h = rw (← user, sym l ∙ h)

  module _ (met : level ≡ true) (compartments : Bool) (c : compartments ≡ within new.compartments (read_compartments rec)) where
    pub compartments-refused : compartments ≡ false → Err CompartmentsNotAllowed ≡ session_label_answer im u new row
    unfolding session_label_answer
    compartments-refused h = rw (← user, sym l ∙ met, sym c ∙ h)

    module _ (met2 : compartments ≡ true) (groups : Bool) (g : groups ≡ session_groups_rule im rec new.groups) where
      pub groups-refused : groups ≡ false → Err GroupsNotAllowed ≡ session_label_answer im u new row
      unfolding session_label_answer
      groups-refused h = rw (← user, sym l ∙ met, sym c ∙ met2, sym g ∙ h)

      module _ (met3 : groups ≡ true) (rights : Rights) (found : rights ≡ rights_at im u new) (inside : Bool) (i : inside ≡ row_inside rights row) where
        pub outside-refused : inside ≡ false → Err RowLabelOutside ≡ session_label_answer im u new row
        unfolding session_label_answer
        outside-refused h =
            rw (← user, sym l ∙ met, sym c ∙ met2, sym g ∙ met3, ← found, sym i ∙ h)

        pub label-accepted : inside ≡ true → (Ok tt) ≡ session_label_answer im u new row
        unfolding session_label_answer
        label-accepted h =
            rw (← user, sym l ∙ met, sym c ∙ met2, sym g ∙ met3, ← found, sym i ∙ h)

-- ---- a new row label
pub record RowLabelKept (rights : Rights) (new : Marks) : Type 0 where
  pub minimum : rights.minimum ≤ new.level
  pub inside : Inside rights new

pub row-label-means : (rights : Rights) (new : Marks) → allowed (row_label_answer rights new) ≡ true → RowLabelKept rights new
unfolding row_label_answer
row-label-means rights new e =
    let q1 = demand-met _ _ _ e in
    let q2 = demand-met _ _ _ q1.1 in
    let q3 = demand-met _ _ _ q2.1 in
    let level = parts _ _ q1.0 in
    record {
      minimum = leb-true _ _ level.0;
      inside = record { level = leb-true _ _ level.1; compartments = q2.0; groups = q3.0 };
    }

pub means-row-label : (rights : Rights) (new : Marks) → RowLabelKept rights new → row_label_answer rights new ≡ Ok tt
unfolding row_label_answer
means-row-label rights new k =
    rw (le-leb _ _ k.minimum, le-leb _ _ k.inside.level, k.inside.compartments, k.inside.groups)

-- ---- 19
pub record SessionKept (im : List ℕ) (u : ℕ) (label row : Marks) : Type 0 where
  pub user : u < users im
  pub session_label : SessionLabelKept im u label row
  pub row_label : RowLabelKept (rights_at im u label) row

pub session-means : (im : List ℕ) (u : ℕ) (label row : Marks) → session_rule im u label row ≡ true → SessionKept im u label row
unfolding session_rule
session-means im u label row e =
    let q2 = parts _ _ e in
    let q1 = parts _ _ q2.0 in
    record {
      user = ltb-true _ _ q1.0;
      session_label = session-label-means im u label row q1.1;
      row_label = row-label-means (rights_at im u label) row q2.1;
    }

pub means-session : (im : List ℕ) (u : ℕ) (label row : Marks) → SessionKept im u label row → session_rule im u label row ≡ true
unfolding session_rule
means-session im u label row k =
    rw (lt-ltb _ _ k.user, means-session-label im u label row k.session_label, means-row-label (rights_at im u label) row k.row_label)
