-- The main theorems on images that are written from records and taken apart (request R-1), each stated in full over definitions of specs (and
-- `FrontDone`, which says what a done call leaves in the buffer). Assumes nothing.
use Rattle.std.proofs.Common.{Ok, Err}
use Prim.Native.Nat.{ℕ, ◌*◌, ◌≤◌, ◌<◌}
use mathlib.Core.Path.{◌≡◌, ap, ◌∙◌}
use mathlib.Core.Bool.{true}
use mathlib.Core.Logic.{◌↔◌}
use mathlib.Core.List.{List, flatten}
use borrow.Author.Tests.{le-leb, lt-leb}
use lib.ListN.{length, take}
use Rattle.fields.specs.Bytes.{byte_at, AreBytes}
use Rattle.refusals.specs.declared.Refusal.{Refusal}
use Rattle.refusals.specs.declared.Refusal.TheVariants.{Room}
use Rattle.refusals.specs.Answers.{number_given, checked_given}
use Rattle.buffers.specs.Pasting.{at_front}
use Rattle.buffers.specs.Filling.{written_to}
use Rattle.buffers.proofs.FrontWritten.{FrontDone, checked-done}
use Rattle.header.specs.declared.counts.Counts.{Counts}
use Rattle.header.specs.declared.layout.Kind.{Kind}
use Rattle.header.specs.declared.layout.Kind.TheVariants.{Component, Label, User}
use Rattle.header.specs.Layout.{edition_named, profile_named, edition_of, record_size, count_of, records_of}
use Rattle.header.proofs.Inside.{records-count}
use Rattle.records.specs.Rules.{record_in, rule_of}
use Rattle.image.specs.Check.{check_of, IsAccepted}
use Rattle.writing.specs.declared.answers.LentFault.{LentFault}
use Rattle.writing.specs.declared.answers.LentFault.TheVariants.{Layout, Record}
use Rattle.writing.specs.declared.answers.WriteRefusal.TheVariants.{Lent, Buffer}
use Rattle.writing.specs.Lent.{bytes_by, lent_records, lent_counts, LentWhole, Classed, Unclassed, lent_check, fault_given}
use Rattle.writing.specs.Calls.{written_answer, lent_image, write_of, records_given_of}
use Rattle.writing.specs.InBlocks.{in_blocks}
use Rattle.writing.proofs.Packed.{flatten-length}
use Rattle.writing.proofs.LaidAgain.{own-sized}
use Rattle.writing.proofs.RefusedAlike as alike
use Rattle.writing.proofs.Refusing as refusing
use Rattle.writing.proofs.WrittenAccepted as written
use Rattle.writing.proofs.WrittenAgain as again

module _ (edition profile : ℕ) (components labels users buffer : List ℕ) where
  -- what is lent, by kind: its bytes and its records; their counts; and the image that is laid out from them
  abbrev bytes : Kind → List ℕ
  bytes = bytes_by components labels users

  abbrev records : Kind → List (List ℕ)
  records = lent_records (edition_named edition) bytes

  abbrev counts : Counts
  counts = lent_counts (edition_named edition) (profile_named profile) (records Component)

  abbrev image : List ℕ
  image = lent_image edition profile bytes

  -- ---- when `write` is done
  -- Where no rule is broken and the buffer has room, the image is written to its front; 65,536 bytes are always enough. Otherwise it is 13.
  pub write_done : lent_check edition profile bytes ≡ Ok tt → length image ≤ length buffer
      → write_of edition profile components labels users buffer ≡ (Ok (length image), at_front image buffer)
  unfolding write_of
  write_done sound room = rw (sound, le-leb (length image) (length buffer) room)

  pub write-no-room : lent_check edition profile bytes ≡ Ok tt → length buffer < length image
      → write_of edition profile components labels users buffer ≡ (Err (Buffer Room), buffer)
  unfolding write_of
  write-no-room sound short = rw (sound, lt-leb (length image) (length buffer) short)

  pub write-at-most : lent_check edition profile bytes ≡ Ok tt → length image ≤ 65536
  write-at-most = written.lent-most edition profile bytes

  -- Where it is done, no rule is broken, and the front of the buffer is the image, of the length that is told; later bytes stay.
  module _ (after : List ℕ) (n : ℕ) (done : write_of edition profile components labels users buffer ≡ (Ok n, after)) where
    pub written-front : (lent_check edition profile bytes ≡ Ok tt) × FrontDone buffer image after n
    written-front = written.write_done edition profile components labels users buffer after n done

    -- It is accepted, and it has the edition and the profile told.
    pub written-accepted : IsAccepted (take n after)
    written-accepted = ap check_of written-front.1.front ∙ written.lent-accepted edition profile bytes written-front.0

    pub written-edition : byte_at (take n after) 4 ≡ edition
    written-edition = ap (λ (im : List ℕ). byte_at im 4) written-front.1.front ∙ written.lent-edition edition profile bytes written-front.0

    pub written-profile : byte_at (take n after) 12 ≡ profile
    written-profile = ap (λ (im : List ℕ). byte_at im 12) written-front.1.front ∙ written.lent-profile edition profile bytes written-front.0

    -- Taken apart it gives the records lent, of each kind.
    pub written_apart : (kind : Kind) (room : List ℕ) → records_given_of kind (take n after) room ≡ written_to room (bytes kind)
    unfolding records_given_of
    written_apart kind room =
        rw (
          written-accepted,
          ap (λ (im : List ℕ). flatten (records_of im kind)) written-front.1.front
              ∙ written.lent-apart edition profile bytes written-front.0 kind,
        )

  -- ---- when it is refused, and with which fault
  -- 31 is told exactly unless the edition and the profile are known, each length is whole records, and no count is outside its limits.
  pub layout-exactly : (write_of edition profile components labels users buffer ≡ (Err (Lent Layout), buffer)) ↔ (LentWhole edition profile bytes → ⊥)
  layout-exactly = refusing.layout-exactly edition profile components labels users buffer

  -- Past 31, records of classes 1 to 3 are refused exactly if the image that is laid out from them is.
  pub refused-exactly : LentWhole edition profile bytes → Classed (records Component)
      → ((fault : LentFault) × (write_of edition profile components labels users buffer ≡ (Err (Lent fault), buffer)))
      ↔ ((r : Refusal) × (check_of image ≡ Err r))
  refused-exactly = refusing.refused-exactly edition profile components labels users buffer

  -- And the check of that image tells the same: the record of that place, by its block and its place there, or the same group; with the same number.
  pub refused-alike : LentWhole edition profile bytes → Classed (records Component)
      → (fault : LentFault) → write_of edition profile components labels users buffer ≡ (Err (Lent fault), buffer)
      → (check_of image ≡ in_blocks image (Err fault)) × (number_given (checked_given (check_of image)) ≡ number_given (fault_given fault))
  refused-alike whole classed fault e =
      let told = refusing.refused-alike edition profile components labels users buffer whole classed fault e in
      (told, ap (λ c. number_given (checked_given c)) told ∙ alike.same_number image fault)

  -- A component of any other class is told as 32, at its place or at an earlier one; at its place where all before it keep their rules.
  pub unknown-class : LentWhole edition profile bytes → (p : ℕ) → p < length (records Component) → Unclassed (record_in (records Component) p)
      → (i : ℕ) × ((i ≤ p) × (write_of edition profile components labels users buffer ≡ (Err (Lent (Record Component i)), buffer)))
  unknown-class whole p here other =
      let told = alike.unknown-class edition profile bytes whole p here other in
      (told.0, (told.1.0, refusing.refused-by edition profile components labels users buffer (Record Component told.0) told.1.1))

  pub unknown-told : LentWhole edition profile bytes → (p : ℕ) → p < length (records Component) → Unclassed (record_in (records Component) p)
      → ((j : ℕ) → j < p → rule_of Component counts (records Component) j ≡ true)
      → write_of edition profile components labels users buffer ≡ (Err (Lent (Record Component p)), buffer)
  unknown-told whole p here other before =
      refusing.refused-by edition profile components labels users buffer (Record Component p)
      (alike.unknown-told edition profile bytes whole p here other before)

-- ---- taking an image apart
-- An accepted image gives its records of a kind, one right after the other, where the buffer has room for them; otherwise it is 13.
module _ (im : List ℕ) (acc : IsAccepted im) (kind : Kind) where
  pub apart-done : (room : List ℕ) → length (flatten (records_of im kind)) ≤ length room
      → records_given_of kind im room ≡ (Ok (length (flatten (records_of im kind))), at_front (flatten (records_of im kind)) room)
  unfolding records_given_of
  apart-done room enough = rw (acc, le-leb (length (flatten (records_of im kind))) (length room) enough)

  pub apart-no-room : (room : List ℕ) → length room < length (flatten (records_of im kind))
      → records_given_of kind im room ≡ (Err Room, room)
  unfolding records_given_of
  apart-no-room room short = rw (acc, lt-leb (length (flatten (records_of im kind))) (length room) short)

  -- as many bytes as the kind's records have
  pub apart-length : length (flatten (records_of im kind)) ≡ record_size (edition_of im) kind * count_of im kind
  apart-length =
      flatten-length (record_size (edition_of im) kind) (records_of im kind) (own-sized im acc kind)
      ∙ ap (λ (k : ℕ). record_size (edition_of im) kind * k) (records-count im kind)

-- An accepted image that is taken apart and written again is the same bytes.
pub apart-written : (im : List ℕ) → AreBytes im
    → (roomC afterC roomL afterL roomU afterU : List ℕ) (c l u : ℕ)
    → records_given_of Component im roomC ≡ (Ok c, afterC)
    → records_given_of Label im roomL ≡ (Ok l, afterL)
    → records_given_of User im roomU ≡ (Ok u, afterU)
    → (buffer : List ℕ)
    → write_of (byte_at im 4) (byte_at im 12) (take c afterC) (take l afterL) (take u afterU) buffer
    ≡ (written_answer (written_to buffer im).0, (written_to buffer im).1)
unfolding records_given_of
apart-written im bytes roomC afterC roomL afterL roomU afterU c l u doneC doneL doneU buffer =
    let given-c = checked-done roomC (flatten (records_of im Component)) afterC c (check_of im) doneC in
    let given-l = checked-done roomL (flatten (records_of im Label)) afterL l (check_of im) doneL in
    let given-u = checked-done roomU (flatten (records_of im User)) afterU u (check_of im) doneU in
    rw (given-c.1.front, given-l.1.front, given-u.1.front) (again.written-again im given-c.0 bytes buffer)
