-- What the clearing move keeps: the image is accepted, nobody holds COMPACCESS any more, the same sessions open and are accepted, users without the bit
-- keep every verdict, and holders lose none but what COMPACCESS gave. Assumes nothing.
use Rattle.std.proofs.Common.{Ok, Err}
use Rattle.refusals.specs.Answers.{Amount, Verdict}
use Prim.Native.Nat.{ℕ, ◌≤◌, ◌<◌}
use mathlib.Core.Path.{◌≡◌, refl, sym, ap, ◌∙◌}
use mathlib.Core.Bool.{Bool, true, false, cond, ◌||◌}
use mathlib.Core.List.{List, []}
use native.Mathlib.Omega.{arith}
use borrow.Author.Tests.{eq-eqb}
use lib.Dec.{leb}
use lib.ListN.{length, take, drop}
use Rattle.fields.specs.Bytes.{AreBytes}
use Rattle.fields.proofs.PlacesWhere.{nowhere}
use Rattle.refusals.specs.declared.Refusal.TheVariants.{Room, CompaccessHolders, MoveLimits}
use Rattle.refusals.specs.Refusals.{number_of}
use Rattle.buffers.specs.Pasting.{at_front}
use Rattle.header.specs.declared.edition.Edition.TheVariants.{One}
use Rattle.header.specs.Layout.{edition_of, users, user_record}
use Rattle.records.specs.Fields.{privileges, has_compaccess}
use Rattle.image.specs.Check.{IsAccepted}
use Rattle.image.proofs.Accepted.{accepted-counted}
use Rattle.access.specs.Rights.{Rights, rights_at, with_privileges}
use Rattle.access.specs.Verdicts.{known_tag, may_read, may_write}
use Rattle.sessions.specs.Session.{SessionMarks, lent_answer, session_rights}
use Rattle.sessions.specs.Opening.{open_of}
use Rattle.sessions.specs.Asking.{may_read_of, may_write_of}
use Rattle.moves.specs.declared.target.Move.TheVariants.{Up, Clear}
use Rattle.moves.specs.Moved.{new_image}
use Rattle.moves.specs.Holders.{is_holder, holders}
use Rattle.buffers.specs.Filling.{unfilled}
use Rattle.moves.specs.Moving.{old_check_of, move_limits_rule, move_up_of, clear_compaccess_of}
use Rattle.moves.proofs.RecordsAlike.{held_after}
use Rattle.moves.proofs.HoldsSame.{HoldsTheSame}
use Rattle.moves.proofs.NewImage.{moved-edition}
use Rattle.moves.proofs.MovedAccepted.{accepted-holds, moved-accepted}
use Rattle.moves.proofs.SameVerdicts.{rights-after, known_alike, reads_same, writes-same, lent_alike, ask-alike}
use Rattle.moves.proofs.SameOpening.{open-alike}
use Rattle.moves.proofs.OldAccepted.{old-accepted, accepted-old}
use Rattle.moves.proofs.CompaccessBits.{bit-gone, none-gone}
use Rattle.moves.proofs.ClearedBytes.{ClearedOnly, cleared-only}
use Rattle.moves.proofs.LessPrivileges.{cleared, adds_reading, adds_writing, less-reads, less-writes}
use Rattle.buffers.proofs.FrontWritten.{checked-done}

pub record KeptByClearing (im new : List ℕ) : Type 0 where
  -- the new image is accepted, and of edition 1
  pub accepted : IsAccepted new
  pub edition : edition_of new ≡ One
  -- nobody holds COMPACCESS, so that a move up is not refused 36
  pub list : holders new ≡ []
  pub movable : (buffer after : List ℕ) (count : ℕ) → move_up_of new buffer ≡ (Err (CompaccessHolders count), after) → ⊥
  -- the same components, labels and users, but for that privilege
  pub holds : HoldsTheSame (held_after Clear) im new
  -- the same session opens for each name, the same sessions are accepted, and the others refused in the same way; the same tags are known
  pub opens : (name : List ℕ) → open_of new name ≡ open_of im name
  pub sessions : (s : SessionMarks) → lent_answer new s ≡ lent_answer im s
  pub tags : (tag : ℕ) → known_tag new tag ≡ known_tag im tag
  -- a user without the bit keeps every verdict
  pub reads : (s : SessionMarks) (tag : ℕ) → is_holder im s.user ≡ false → may_read_of new s tag ≡ may_read_of im s tag
  pub writes : (s : SessionMarks) (tag : ℕ) → is_holder im s.user ≡ false → may_write_of new s tag ≡ may_write_of im s tag
  -- what any session was granted, it is granted still, or COMPACCESS gave it
  pub reads_lost : (s : SessionMarks) (tag : ℕ) → s.user < users im
      → may_read im (session_rights im s) tag ≡ (may_read new (session_rights new s) tag || adds_reading im (session_rights im s) tag)
  pub writes_lost : (s : SessionMarks) (tag : ℕ) → s.user < users im
      → may_write im (session_rights im s) tag ≡ (may_write new (session_rights new s) tag || adds_writing im (session_rights im s) tag)

module _ (im : List ℕ) (acc : IsAccepted im) (one : edition_of im ≡ One) where
  abbrev new : List ℕ
  new = new_image Clear im

  acc-new : IsAccepted new
  acc-new = moved-accepted Clear im acc one refl

  same : HoldsTheSame (held_after Clear) im new
  same = accepted-holds Clear im acc one

  new-one : edition_of new ≡ One
  new-one = moved-edition Clear im (accepted-counted im acc).fitted one

  no-holder : (u : ℕ) → u < users im → is_holder new u ≡ false
  no-holder u h = ap has_compaccess (same.user u h).held ∙ bit-gone (privileges (user_record im u))

  no-holders : holders new ≡ []
  unfolding holders
  no-holders = nowhere (is_holder new) (users new) 0 (λ u low high. no-holder u (omega (arith, same.same_users)))

  read_same : (rights : Rights) (tag : ℕ) → may_read new rights tag ≡ may_read im rights tag
  read_same rights tag = reads_same im new same (new-one ∙ sym one) tag rights

  write_same : (rights : Rights) (tag : ℕ) → may_write new rights tag ≡ may_write im rights tag
  write_same rights tag = writes-same im new same (new-one ∙ sym one) tag rights

  -- ---- a session
  -- its rights are the old ones without COMPACCESS
  rights-cleared : (s : SessionMarks) → s.user < users im → session_rights new s ≡ cleared (session_rights im s)
  rights-cleared s h = rights-after im new same s.user h s.label

  -- so they are the old ones where it was not held
  rights-kept : (s : SessionMarks) → is_holder im s.user ≡ false → cleared (session_rights im s) ≡ session_rights im s
  unfolding rights_at
  rights-kept s e =
      ap (λ (held : ℕ). with_privileges held (session_rights im s)) (none-gone (privileges (user_record im s.user)) e)

  verdict-kept : (s : SessionMarks) (f g : Rights → Bool) → ((rights : Rights) → f rights ≡ g rights) → is_holder im s.user ≡ false
      → ◌≡◌ {A = Verdict} (Ok (f (cleared (session_rights im s)))) (Ok (g (session_rights im s)))
  verdict-kept s f g alike e = ap (λ (rights : Rights). Ok (f rights)) (rights-kept s e) ∙ ap Ok (alike (session_rights im s))

  kept-reads : (s : SessionMarks) (tag : ℕ) → is_holder im s.user ≡ false → may_read_of new s tag ≡ may_read_of im s tag
  unfolding may_read_of
  kept-reads s tag e =
      ask-alike im new same acc acc-new s Err (λ r. Ok (may_read new r tag)) (λ r. Ok (may_read im r tag))
      (verdict-kept s (λ r. may_read new r tag) (λ r. may_read im r tag) (λ r. read_same r tag) e)

  kept-writes : (s : SessionMarks) (tag : ℕ) → is_holder im s.user ≡ false → may_write_of new s tag ≡ may_write_of im s tag
  unfolding may_write_of
  kept-writes s tag e =
      ask-alike im new same acc acc-new s Err (λ r. Ok (may_write new r tag)) (λ r. Ok (may_write im r tag))
      (verdict-kept s (λ r. may_write new r tag) (λ r. may_write im r tag) (λ r. write_same r tag) e)

  lost-reads : (s : SessionMarks) (tag : ℕ) → s.user < users im
      → may_read im (session_rights im s) tag ≡ (may_read new (session_rights new s) tag || adds_reading im (session_rights im s) tag)
  lost-reads s tag h = rw (rights-cleared s h, read_same (cleared (session_rights im s)) tag) (less-reads (session_rights im s) im tag)

  lost-writes : (s : SessionMarks) (tag : ℕ) → s.user < users im
      → may_write im (session_rights im s) tag ≡ (may_write new (session_rights new s) tag || adds_writing im (session_rights im s) tag)
  lost-writes s tag h = rw (rights-cleared s h, write_same (cleared (session_rights im s)) tag) (less-writes (session_rights im s) im tag)

  -- ---- a move up afterwards
  number_after : Amount × List ℕ → ℕ
  number_after (Ok n, after) = 0
  number_after (Err r, after) = number_of r

  not-refused : (buffer after : List ℕ) (count : ℕ) → move_up_of new buffer ≡ (Err (CompaccessHolders count), after) → ⊥
  unfolding move_up_of number_after
  not-refused buffer after count q =
      at (move_limits_rule new) (leb (length (new_image Up new)) (length buffer))
      (sym (rw (accepted-old new acc-new new-one, eq-eqb (length (holders new)) 0 (ap length no-holders)) at q))
    where
      at : (s t : Bool) → (Err (CompaccessHolders count), after)
          ≡ cond {A = Amount × List ℕ} s (cond t (Ok (length (new_image Up new)), at_front (new_image Up new) buffer) (unfilled buffer Room))
          (unfilled buffer MoveLimits) → ⊥
      at true true e = let z : ◌≡◌ {A = ℕ} 36 0 = ap number_after e in omega arith
      at true false e = let z : ◌≡◌ {A = ℕ} 36 13 = ap number_after e in omega arith
      at false t e = let z : ◌≡◌ {A = ℕ} 36 37 = ap number_after e in omega arith

  pub kept-by-clearing : KeptByClearing im new
  kept-by-clearing =
      record {
        accepted = acc-new;
        edition = new-one;
        list = no-holders;
        movable = not-refused;
        holds = same;
        opens = open-alike im new same acc acc-new;
        sessions = lent_alike im new same acc acc-new;
        tags = known_alike im new same;
        reads = kept-reads;
        writes = kept-writes;
        reads_lost = lost-reads;
        writes_lost = lost-writes;
      }

-- ---- the call: where it is done, the front of the buffer is such an image, of the length that is told, and later bytes stay
pub record ClearedBy (im buffer after : List ℕ) (n : ℕ) : Type 0 where
  pub room : n ≤ length buffer
  pub kept : KeptByClearing im (take n after)
  -- of an image that is made of bytes
  pub only : AreBytes im → ClearedOnly im (take n after)
  pub later : drop n after ≡ drop n buffer

pub cleared-by-call : (im buffer after : List ℕ) (n : ℕ) → clear_compaccess_of im buffer ≡ (Ok n, after) → ClearedBy im buffer after n
unfolding clear_compaccess_of
cleared-by-call im buffer after n q =
    let told = checked-done buffer (new_image Clear im) after n (old_check_of im) q in
    let acc = (old-accepted im told.0).0 in
    let one = (old-accepted im told.0).1 in
    record {
      room = told.1.room;
      kept = rw told.1.front (kept-by-clearing im acc one);
      only = λ bytes. rw told.1.front (cleared-only im acc one bytes);
      later = told.1.later;
    }
