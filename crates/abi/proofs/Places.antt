-- The place that a refusal tells fits its 32 bits, for each call on sessions, for prints, merges and moves. Assumes nothing.
use Rattle.std.proofs.Common.{Ok, Err}
use Prim.Native.Nat.{ℕ, ◌^◌, ◌<◌}
use mathlib.Core.Path.{◌≡◌, refl, subst}
use mathlib.Core.Bool.{Bool, true, false, cond, ◌&&◌}
use mathlib.Core.List.{List}
use native.Mathlib.Omega.{arith}
use borrow.Author.Tests.{leb-true}
use lib.Dec.{eqb, leb, ltb}
use lib.ListN.{length}
use Rattle.refusals.specs.declared.Refusal.{Refusal}
use Rattle.refusals.specs.declared.Refusal.TheVariants.{NoUser, MergeLetters, SessionRules, Room, NoComponent, ImageLayout, CompaccessHolders, MoveLimits}
use Rattle.refusals.specs.declared.Refusal.TheVariants.{LevelNotAllowed, CompartmentsNotAllowed, GroupsNotAllowed, RowLabelOutside}
use Rattle.refusals.specs.Answers.{on_checked, or_refuse, refusal_given, checked_given, verdict_given, PlaceFits, Amount, Checked, amount_given}
use Rattle.buffers.specs.Pasting.{at_front}
use Rattle.fields.proofs.Both.{parts}
use Rattle.fields.proofs.PlacesWhere.{where-count}
use Rattle.sets.specs.Sets.{within}
use Rattle.header.specs.Layout.{users, labels, user_record}
use Rattle.records.specs.Fields.{minimum_level, maximum_level, read_compartments}
use Rattle.image.specs.Check.{check_of}
use Rattle.image.specs.Lookup.{user_of_name}
use Rattle.image.proofs.Place.{check-place}
use Rattle.labels.specs.Label.{Marks, label_exists}
use Rattle.labels.specs.Parse as parse
use Rattle.labels.specs.Parse.{Reading, read_text}
use Rattle.labels.proofs.Offsets.{read_told}
use Rattle.printing.specs.Print.{text_of, unprinted, accepted_answer, print_of}
use Rattle.access.specs.Rights.{Rights, between, rights_at}
use Rattle.access.specs.NewLabels.{session_groups_rule, row_groups_rule, row_inside, session_label_answer, row_label_answer, session_rule}
use Rattle.access.specs.Verdicts.{may_read, may_write}
use Rattle.dominance.specs.TwoLabels as two
use Rattle.dominance.specs.TwoLabels.{compared_answer, dominates_of, strictly_dominates_of, Merging, letters_rule, merged_label, merge_of}
use Rattle.sessions.specs.Session.{SessionMarks, lent_answer, session_rights}
use Rattle.sessions.specs.Opening.{Opening, session, refused, default_session, open_accepted, open_of}
use Rattle.sessions.specs.Changes.{change_if, change_to, after_lent, with_label, with_row_label, label_change, row_label_change, set_label_of, set_row_label_of}
use Rattle.sessions.specs.Asking.{may_read_of, may_write_of}
use Rattle.moves.specs.declared.target.Move.TheVariants.{Up, Clear}
use Rattle.moves.specs.Moved.{new_image}
use Rattle.moves.specs.Holders.{is_holder, holders}
use Rattle.buffers.specs.Filling.{unfilled, written_to}
use Rattle.moves.specs.Moving.{framed_two, old_check_of, move_limits_rule, move_accepted, move_up_of, compaccess_users_of, clear_compaccess_of}
use Rattle.abi.specs.Sessions.{opened_given}
use Rattle.abi.specs.TwoLabels.{merged_given}

-- ---- images
pub image-fits : (im : List ℕ) (r : Refusal) → check_of im ≡ Err r → PlaceFits (refusal_given r)
image-fits im r e = omega (arith, check-place im r e)

pub check-fits : (im : List ℕ) → PlaceFits (checked_given (check_of im))
check-fits im = at (check_of im) refl
  where
    at : (c : Checked) → check_of im ≡ c → PlaceFits (checked_given c)
    at (Ok tt) d = omega arith
    at (Err q) d = image-fits im q d

-- an answer that comes after the check of the image
after-check-fits : (im : List ℕ) (answer : Checked) → PlaceFits (checked_given answer) → PlaceFits (checked_given (on_checked (check_of im) Err answer))
after-check-fits im answer fits = at (check_of im) refl
  where
    at : (c : Checked) → check_of im ≡ c → PlaceFits (checked_given (on_checked c Err answer))
    at (Ok tt) d = fits
    at (Err q) d = image-fits im q d

-- ---- openings
pub open-fits : (im name : List ℕ) (r : Refusal) → open_of im name ≡ refused r → PlaceFits (refusal_given r)
unfolding open_of open_accepted
open-fits im name r e = subst (λ (o : Opening). PlaceFits (opened_given o)) e (at (check_of im) refl (ltb (user_of_name im name) (users im)))
  where
    at : (c : Checked) → check_of im ≡ c → (t : Bool)
        → PlaceFits (opened_given (on_checked c refused (cond t (session (default_session im (user_of_name im name))) (refused NoUser))))
    at (Ok tt) d true = omega arith
    at (Ok tt) d false = omega arith
    at (Err q) d t = image-fits im q d

-- ---- answers that accept or refuse
session-label-fits : (im : List ℕ) (u : ℕ) (new row : Marks) → PlaceFits (checked_given (session_label_answer im u new row))
unfolding session_label_answer
session-label-fits im u new row =
    let r = user_record im u in
    at (between (minimum_level r) (maximum_level r) new.level) (within new.compartments (read_compartments r))
    (session_groups_rule im r new.groups) (row_inside (rights_at im u new) row)
  where
    at : (a b c d : Bool)
        → PlaceFits (checked_given
        (or_refuse a LevelNotAllowed (or_refuse b CompartmentsNotAllowed (or_refuse c GroupsNotAllowed (or_refuse d RowLabelOutside (Ok tt))))))
    at true true true true = omega arith
    at true true true false = omega arith
    at true true false d = omega arith
    at true false c d = omega arith
    at false b c d = omega arith

row-label-fits : (rights : Rights) (new : Marks) → PlaceFits (checked_given (row_label_answer rights new))
unfolding row_label_answer
row-label-fits rights new =
    at (between rights.minimum rights.level new.level) (within new.compartments rights.write_compartments) (row_groups_rule rights new.groups)
  where
    at : (a b c : Bool) → PlaceFits (checked_given (or_refuse a LevelNotAllowed (or_refuse b CompartmentsNotAllowed (or_refuse c GroupsNotAllowed (Ok tt)))))
    at true true true = omega arith
    at true true false = omega arith
    at true false c = omega arith
    at false b c = omega arith

pub lent_fits : (im : List ℕ) (s : SessionMarks) (r : Refusal) → lent_answer im s ≡ Err r → PlaceFits (refusal_given r)
unfolding lent_answer
lent_fits im s r e =
    subst (λ (c : Checked). PlaceFits (checked_given c)) e (after-check-fits im _ (at (session_rule im s.user s.label s.row)))
  where
    at : (t : Bool) → PlaceFits (checked_given (or_refuse t SessionRules (Ok tt)))
    at true = omega arith
    at false = omega arith

-- ---- label changes
if-fits : (old new : SessionMarks) (c : Checked) → PlaceFits (checked_given c) → PlaceFits (checked_given (change_if old c new).1)
if-fits old new (Ok tt) e = e
if-fits old new (Err r) e = e

module _ (im text : List ℕ) (s : SessionMarks) (rule : Marks → Checked) (change : Marks → SessionMarks)
    (fits : (m : Marks) → PlaceFits (checked_given (rule m))) where
  text-fits : PlaceFits (checked_given (change_to s (read_text im text) rule change).1)
  text-fits = at (read_text im text) refl
    where
      at : (r : Reading Marks) → read_text im text ≡ r → PlaceFits (checked_given (change_to s r rule change).1)
      at (parse.read m) e = if-fits s (change m) (rule m) (fits m)
      at (parse.refused reason) e = read_told im text reason e

  change-fits : PlaceFits (checked_given (after_lent im s (change_to s (read_text im text) rule change)).1)
  change-fits = at (lent_answer im s) refl
    where
      at : (c : Checked) → lent_answer im s ≡ c
          → PlaceFits (checked_given (on_checked {A = SessionMarks × Checked} c (λ q. (s, Err q)) (change_to s (read_text im text) rule change)).1)
      at (Ok tt) d = text-fits
      at (Err q) d = lent_fits im s q d

pub set-label-fits : (im text : List ℕ) (s : SessionMarks) → PlaceFits (checked_given (set_label_of im s text).1)
unfolding set_label_of label_change
set-label-fits im text s =
    change-fits im text s (λ m. session_label_answer im s.user m s.row) (λ m. with_label s m) (λ m. session-label-fits im s.user m s.row)

pub set-row-label-fits : (im text : List ℕ) (s : SessionMarks) → PlaceFits (checked_given (set_row_label_of im s text).1)
unfolding set_row_label_of row_label_change
set-row-label-fits im text s =
    change-fits im text s (λ m. row_label_answer (session_rights im s) m) (λ m. with_row_label s m) (λ m. row-label-fits (session_rights im s) m)

-- ---- verdicts
pub verdict-fits : (granted : Bool) → PlaceFits (verdict_given (Ok granted))
verdict-fits true = omega arith
verdict-fits false = omega arith

-- a verdict after an answer whose refusals fit
after-fits : (c : Checked) → ((r : Refusal) → c ≡ Err r → PlaceFits (refusal_given r)) → (granted : Bool)
    → PlaceFits (verdict_given (on_checked c Err (Ok granted)))
after-fits (Ok tt) fits granted = verdict-fits granted
after-fits (Err q) fits granted = fits q refl

pub may-read-fits : (im : List ℕ) (s : SessionMarks) (tag : ℕ) → PlaceFits (verdict_given (may_read_of im s tag))
unfolding may_read_of
may-read-fits im s tag = after-fits (lent_answer im s) (lent_fits im s) (may_read im (session_rights im s) tag)

pub may-write-fits : (im : List ℕ) (s : SessionMarks) (tag : ℕ) → PlaceFits (verdict_given (may_write_of im s tag))
unfolding may_write_of
may-write-fits im s tag = after-fits (lent_answer im s) (lent_fits im s) (may_write im (session_rights im s) tag)

-- ---- dominance
compared-fits : (im : List ℕ) (a b : Marks) (r : Refusal) → compared_answer im a b ≡ Err r → PlaceFits (refusal_given r)
unfolding compared_answer
compared-fits im a b r e =
    subst (λ (c : Checked). PlaceFits (checked_given c)) e (after-check-fits im _ (at (label_exists im a && label_exists im b)))
  where
    at : (t : Bool) → PlaceFits (checked_given (or_refuse t NoComponent (Ok tt)))
    at true = omega arith
    at false = omega arith

pub dominates-fits : (im : List ℕ) (a b : Marks) → PlaceFits (verdict_given (dominates_of im a b))
unfolding dominates_of
dominates-fits im a b = after-fits (compared_answer im a b) (compared-fits im a b) (two.dominates im a b)

pub strictly-dominates-fits : (im : List ℕ) (a b : Marks) → PlaceFits (verdict_given (strictly_dominates_of im a b))
unfolding strictly_dominates_of
strictly-dominates-fits im a b = after-fits (compared_answer im a b) (compared-fits im a b) (two.strictly_dominates im a b)

-- ---- prints
pub print-fits : (im : List ℕ) (m : Marks) (buffer : List ℕ) → PlaceFits (amount_given (print_of im m buffer).0)
unfolding print_of accepted_answer
print-fits im m buffer = at (check_of im) refl (label_exists im m) (leb (length text) (length buffer))
  where
    text : List ℕ
    text = text_of im m

    at : (c : Checked) → check_of im ≡ c → (s t : Bool)
        → PlaceFits (amount_given (on_checked {A = Amount × List ℕ} c (unprinted buffer)
        (on_checked (or_refuse s NoComponent (or_refuse t Room (Ok tt))) (unprinted buffer) (Ok (length text), at_front text buffer))).0)
    at (Ok tt) d true true = omega arith
    at (Ok tt) d true false = omega arith
    at (Ok tt) d false t = omega arith
    at (Err q) d s t = image-fits im q d

-- ---- merges
pub merge-fits : (a b : Marks) (letters : List ℕ) (r : Refusal) → merge_of a b letters ≡ Err r → PlaceFits (refusal_given r)
unfolding merge_of
merge-fits a b letters r e = subst (λ (m : Merging). PlaceFits (merged_given m)) e (at (letters_rule letters))
  where
    at : (t : Bool) → PlaceFits (merged_given (cond {A = Merging} t (Ok (merged_label a b letters)) (Err MergeLetters)))
    at true = omega arith
    at false = omega arith

-- ---- moves
-- what is written has no place, and neither has 13
pub written-fits : (buffer bytes : List ℕ) → PlaceFits (amount_given (written_to buffer bytes).0)
written-fits buffer bytes = at (leb (length bytes) (length buffer))
  where
    at : (t : Bool) → PlaceFits (amount_given (cond {A = Amount × List ℕ} t (Ok (length bytes), at_front bytes buffer) (Err Room, buffer)).0)
    at true = omega arith
    at false = omega arith

-- an answer that comes after the check of an image of edition 1
old-fits : (im buffer : List ℕ) (answer : Amount × List ℕ) → PlaceFits (amount_given answer.0)
    → PlaceFits (amount_given (on_checked (old_check_of im) (unfilled buffer) answer).0)
unfolding old_check_of
old-fits im buffer answer fits = at (framed_two im) (check_of im) refl
  where
    at : (f : Bool) (c : Checked) → check_of im ≡ c
        → PlaceFits (amount_given (on_checked {A = Amount × List ℕ} (cond f (Err ImageLayout) c) (unfilled buffer) answer).0)
    at true c e = omega arith
    at false (Ok tt) e = fits
    at false (Err r) e = image-fits im r e

pub list-fits : (im buffer : List ℕ) → PlaceFits (amount_given (compaccess_users_of im buffer).0)
unfolding compaccess_users_of
list-fits im buffer = old-fits im buffer (written_to buffer (holders im)) (written-fits buffer (holders im))

pub clear-fits : (im buffer : List ℕ) → PlaceFits (amount_given (clear_compaccess_of im buffer).0)
unfolding clear_compaccess_of
clear-fits im buffer = old-fits im buffer (written_to buffer (new_image Clear im)) (written-fits buffer (new_image Clear im))

-- 36 tells no more than there are users
few-holders : (im : List ℕ) → move_limits_rule im ≡ true → length (holders im) < 2 ^ 32
unfolding move_limits_rule holders
few-holders im e = omega (arith, where-count (is_holder im) (users im) 0, leb-true (users im) 32 (parts (leb (labels im) 800) (leb (users im) 32) e).1)

pub move-fits : (im buffer : List ℕ) → PlaceFits (amount_given (move_up_of im buffer).0)
unfolding move_up_of
move-fits im buffer = old-fits im buffer (move_accepted im buffer) (at (move_limits_rule im) refl (eqb (length (holders im)) 0))
  where
    at : (s : Bool) → move_limits_rule im ≡ s → (h : Bool)
        → PlaceFits (amount_given (cond {A = Amount × List ℕ} s
        (cond h (written_to buffer (new_image Up im)) (unfilled buffer (CompaccessHolders (length (holders im))))) (unfilled buffer MoveLimits)).0)
    at true e true = written-fits buffer (new_image Up im)
    at true e false = few-holders im e
    at false e h = omega arith
