-- What a move up keeps, all of it: the new image is accepted, holds the same, opens and accepts the same sessions and gives them the same
-- verdicts on every tag that the old one knows; a tag that it does not know is denied. Assumes nothing.
use Rattle.std.proofs.Common.{Ok, Err}
use Prim.Native.Nat.{ℕ, ◌≤◌}
use mathlib.Core.Path.{◌≡◌, refl, ap, ◌∙◌}
use mathlib.Core.Bool.{Bool, true, false, cond}
use mathlib.Core.List.{List}
use lib.Dec.{eqb}
use lib.ListN.{length, take, drop}
use Rattle.fields.proofs.Both.{both}
use Rattle.header.specs.declared.edition.Edition.TheVariants.{Two}
use Rattle.header.specs.Layout.{edition_of}
use Rattle.refusals.specs.declared.Refusal.TheVariants.{ImageLayout, CompaccessHolders, MoveLimits}
use Rattle.refusals.specs.Answers.{on_checked, Amount, Checked}
use Rattle.image.specs.Check.{IsAccepted}
use Rattle.image.proofs.Accepted.{accepted-counted}
use Rattle.access.specs.Rights.{Rights}
use Rattle.access.specs.Verdicts.{known_tag, may_read, may_write}
use Rattle.sessions.specs.Session.{SessionMarks, lent_answer}
use Rattle.sessions.specs.Opening.{open_of}
use Rattle.sessions.specs.Asking.{may_read_of, may_write_of}
use Rattle.moves.specs.declared.target.Move.TheVariants.{Up}
use Rattle.moves.specs.Moved.{new_image}
use Rattle.moves.specs.Holders.{holders}
use Rattle.buffers.specs.Filling.{unfilled, written_to}
use Rattle.moves.specs.Moving.{move_limits_rule, old_check_of, move_up_of}
use Rattle.moves.proofs.HoldsSame.{HoldsTheSame}
use Rattle.moves.proofs.RecordsAlike.{held_after}
use Rattle.moves.proofs.NewImage.{taken_rule, moved-edition}
use Rattle.moves.proofs.MovedAccepted.{accepted-holds, moved-accepted}
use Rattle.moves.proofs.SameVerdicts.{known_alike, lent_alike, may-read-alike, may-write-alike}
use Rattle.moves.proofs.SameOpening.{open-alike}
use Rattle.moves.proofs.OldAccepted.{old-accepted, new-refused}
use Rattle.buffers.proofs.FrontWritten.{FrontDone, refused-done, front-done}

-- in edition 2 a tag that no label carries is denied to all
module _ (im : List ℕ) (two : edition_of im ≡ Two) (rights : Rights) (tag : ℕ) (unknown : known_tag im tag ≡ false) where
  pub unknown-unread : may_read im rights tag ≡ false
  unfolding may_read
  unknown-unread = rw (unknown, two)

  pub unknown-unwritten : may_write im rights tag ≡ false
  unfolding may_write
  unknown-unwritten = rw (unknown, two)

pub record KeptByMove (im new : List ℕ) : Type 0 where
  -- the new image is accepted, and of edition 2: to move it again is 31
  pub accepted : IsAccepted new
  pub edition : edition_of new ≡ Two
  pub once : old_check_of new ≡ Err ImageLayout
  -- the same components, labels and users
  pub holds : HoldsTheSame (held_after Up) im new
  -- the same session opens for each name
  pub opens : (name : List ℕ) → open_of new name ≡ open_of im name
  -- the same sessions are accepted, and the others refused in the same way
  pub sessions : (s : SessionMarks) → lent_answer new s ≡ lent_answer im s
  -- the same tags are known, and each has the same verdicts
  pub tags : (tag : ℕ) → known_tag new tag ≡ known_tag im tag
  pub reads : (s : SessionMarks) (tag : ℕ) → known_tag im tag ≡ true → may_read_of new s tag ≡ may_read_of im s tag
  pub writes : (s : SessionMarks) (tag : ℕ) → known_tag im tag ≡ true → may_write_of new s tag ≡ may_write_of im s tag
  -- the other tags are denied to all
  pub unread : (rights : Rights) (tag : ℕ) → known_tag im tag ≡ false → may_read new rights tag ≡ false
  pub unwritten : (rights : Rights) (tag : ℕ) → known_tag im tag ≡ false → may_write new rights tag ≡ false

-- of every image that a move up takes
pub kept-by-move : (im : List ℕ) → old_check_of im ≡ (Ok tt) → taken_rule Up im ≡ true → KeptByMove im (new_image Up im)
kept-by-move im e taken =
    let acc = (old-accepted im e).0 in
    let old = (old-accepted im e).1 in
    let same = accepted-holds Up im acc old in
    let acc-new = moved-accepted Up im acc old taken in
    let two = moved-edition Up im (accepted-counted im acc).fitted old in
    record {
      accepted = acc-new;
      edition = two;
      once = new-refused (new_image Up im) acc-new two;
      holds = same;
      opens = open-alike im (new_image Up im) same acc acc-new;
      sessions = lent_alike im (new_image Up im) same acc acc-new;
      tags = known_alike im (new_image Up im) same;
      reads = may-read-alike im (new_image Up im) same acc acc-new;
      writes = may-write-alike im (new_image Up im) same acc acc-new;
      unread = λ rights tag e. unknown-unread (new_image Up im) two rights tag (known_alike im (new_image Up im) same tag ∙ e);
      unwritten = λ rights tag e. unknown-unwritten (new_image Up im) two rights tag (known_alike im (new_image Up im) same tag ∙ e);
    }

-- ---- the call: where it is done, the front of the buffer is such an image, of the length that is told, and later bytes stay
pub record MovedBy (im buffer after : List ℕ) (n : ℕ) : Type 0 where
  pub room : n ≤ length buffer
  pub kept : KeptByMove im (take n after)
  pub later : drop n after ≡ drop n buffer

module _ (im buffer after : List ℕ) (n : ℕ) where
  laid : KeptByMove im (new_image Up im) → FrontDone buffer (new_image Up im) after n → MovedBy im buffer after n
  laid kept done = record { room = done.room; kept = rw done.front kept; later = done.later }

  pub moved-by-call : move_up_of im buffer ≡ (Ok n, after) → MovedBy im buffer after n
  unfolding move_up_of
  moved-by-call = at (old_check_of im) refl (move_limits_rule im) refl (eqb (length (holders im)) 0) refl
    where
      at : (c : Checked) → old_check_of im ≡ c → (s : Bool) → move_limits_rule im ≡ s → (h : Bool) → eqb (length (holders im)) 0 ≡ h
          → on_checked {A = Amount × List ℕ} c (unfilled buffer)
          (cond s (cond h (written_to buffer (new_image Up im)) (unfilled buffer (CompaccessHolders (length (holders im))))) (unfilled buffer MoveLimits))
          ≡ (Ok n, after) → MovedBy im buffer after n
      at (Ok tt) e true s true h q = laid (kept-by-move im e (both _ _ s h)) (front-done buffer (new_image Up im) after n q)
      at (Ok tt) e true s false h q = absurd (refused-done (ap (λ (p : Amount × List ℕ). p.0) q))
      at (Ok tt) e false s h g q = absurd (refused-done (ap (λ (p : Amount × List ℕ). p.0) q))
      at (Err r) e s f h g q = absurd (refused-done (ap (λ (p : Amount × List ℕ). p.0) q))
