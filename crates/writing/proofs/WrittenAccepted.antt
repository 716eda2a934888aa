-- What the writer writes is an accepted image of the edition and the profile told, and taken apart it gives the bytes lent. Assumes nothing.
use Rattle.std.proofs.Common.{Ok, Err}
use Rattle.writing.specs.declared.answers.WriteRefusal.TheVariants.{Lent}
use Rattle.std.proofs.Common.{Ok}
use Rattle.refusals.specs.Answers.{Amount}
use Prim.Native.Nat.{ℕ, ◌≤◌}
use mathlib.Core.Path.{◌≡◌, refl, sym, ap, ap₂, ◌∙◌}
use mathlib.Core.Bool.{Bool, true, false, cond}
use mathlib.Core.Logic.{◌⊎◌, ⊎_elim}
use mathlib.Core.List.{List, flatten}
use native.Mathlib.Omega.{arith}
use native.Mathlib.Numerals.{lt_of_le_of_ne}
use borrow.Author.Tests.{eqb-true, eqb-false}
use lib.Dec.{eqb}
use lib.ListN.{length}
use Rattle.fields.specs.Bytes.{byte_at}
use Rattle.buffers.specs.Filling.{written_to}
use Rattle.buffers.proofs.FrontWritten.{FrontDone, front-done}
use Rattle.header.specs.declared.edition.Edition.{Edition}
use Rattle.header.specs.declared.counts.Counts.{Counts}
use Rattle.header.specs.declared.layout.Kind.{Kind}
use Rattle.header.specs.declared.layout.Kind.TheVariants.{Component}
use Rattle.header.specs.declared.profile.Profile.TheVariants.{Tree, Release}
use Rattle.header.specs.Layout.{edition_named, profile_named, by_edition, record_size, records_of}
use Rattle.image.specs.Check.{IsAccepted}
use Rattle.image.proofs.EveryRule.{accepted-keeps}
use Rattle.writing.specs.declared.answers.LentFault.{LentFault}
use Rattle.writing.specs.Laid.{profile_byte}
use Rattle.writing.specs.Lent.{LentCheck, bytes_by, lent_records, lent_counts, lent_check}
use Rattle.writing.specs.Calls.{WriteAnswer, written_answer, lent_image, on_sound, image_to, write_of}
use Rattle.writing.proofs.Runs.{run-joined}
use Rattle.writing.proofs.Counted.{edition-byte-is, profile-byte-is}
use Rattle.writing.proofs.ReadBack.{records-are}
use Rattle.writing.proofs.SoundLent.{sound-parts, sound-layout, sound-fits}
use Rattle.writing.proofs.ToldAlike.{sound-accepted}

-- ---- the bytes that tell a known edition and a known profile
edition-told : (edition : ℕ) → (edition ≡ 1) ⊎ (edition ≡ 2) → by_edition (edition_named edition) 1 2 ≡ edition
edition-told edition = ⊎_elim (λ e. rw e) (λ e. rw e)

profile-told : (profile : ℕ) → profile ≤ 1 → profile_byte (profile_named profile) ≡ profile
profile-told profile few = at (eqb profile 1) refl
  where
    at : (t : Bool) → eqb profile 1 ≡ t → profile_byte (cond t Release Tree) ≡ profile
    at true e = sym (eqb-true _ _ e)
    at false e = omega (arith, lt_of_le_of_ne few (eqb-false _ _ e))

-- ---- the image of what is lent and sound
module _ (edition profile : ℕ) (bytes : Kind → List ℕ) (sound : lent_check edition profile bytes ≡ Ok tt) where
  abbrev e : Edition
  e = edition_named edition

  abbrev n : Counts
  n = lent_counts e (profile_named profile) (lent_records e bytes Component)

  pub lent-accepted : IsAccepted (lent_image edition profile bytes)
  unfolding lent_image
  lent-accepted =
      sound-accepted n (lent_records e bytes) (sound-fits edition profile bytes sound) (sound-layout edition profile bytes sound).limited
      (sound-parts edition profile bytes sound).1

  -- no image is longer than 65,536 bytes
  pub lent-most : length (lent_image edition profile bytes) ≤ 65536
  lent-most = (accepted-keeps (lent_image edition profile bytes) lent-accepted).length.most

  -- it has the edition and the profile told
  pub lent-edition : byte_at (lent_image edition profile bytes) 4 ≡ edition
  unfolding lent_image
  lent-edition =
      edition-byte-is n (lent_records e bytes) (sound-fits edition profile bytes sound)
      ∙ edition-told edition (sound-layout edition profile bytes sound).edition_known

  pub lent-profile : byte_at (lent_image edition profile bytes) 12 ≡ profile
  unfolding lent_image
  lent-profile =
      profile-byte-is n (lent_records e bytes) (sound-fits edition profile bytes sound)
      ∙ profile-told profile (sound-layout edition profile bytes sound).profile_known

  -- taken apart it gives the bytes lent
  pub lent-apart : (kind : Kind) → flatten (records_of (lent_image edition profile bytes) kind) ≡ bytes kind
  unfolding lent_image
  lent-apart kind =
      ap flatten (records-are n (lent_records e bytes) (sound-fits edition profile bytes sound) kind)
      ∙ run-joined (record_size e kind) (bytes kind) ((sound-layout edition profile bytes sound).whole kind)

-- ---- the call
image-same : (f : Amount) {n : ℕ} → written_answer f ≡ Ok n → f ≡ Ok n
image-same (Ok m) {n} q = let e : m ≡ n = cc in ap Ok e
image-same (Err r) {n} q = let z : ◌≡◌ {A = ℕ} 0 1 = cc in absurd (omega arith)

refused-image : {fault : LentFault} {n : ℕ} → ◌≡◌ {A = WriteAnswer} (Err (Lent fault)) (Ok n) → ⊥
refused-image {fault} {n} q = let z : ◌≡◌ {A = ℕ} 0 1 = cc in omega arith

module _ (edition profile : ℕ) (components labels users buffer after : List ℕ) (n : ℕ) where
  abbrev bytes : Kind → List ℕ
  bytes = bytes_by components labels users

  abbrev image : List ℕ
  image = lent_image edition profile bytes

  -- where it is done, no fault is told, and the front of the buffer is the image
  pub write_done : write_of edition profile components labels users buffer ≡ (Ok n, after)
      → (lent_check edition profile (bytes_by components labels users) ≡ Ok tt)
      × FrontDone buffer (lent_image edition profile (bytes_by components labels users)) after n
  unfolding write_of
  write_done = at (lent_check edition profile bytes) refl
    where
      at : (c : LentCheck) → lent_check edition profile bytes ≡ c
          → on_sound {A = WriteAnswer × List ℕ} c (λ fault. (Err (Lent fault), buffer)) (image_to buffer image) ≡ (Ok n, after)
          → (lent_check edition profile bytes ≡ Ok tt) × FrontDone buffer image after n
      at (Ok _) sound q =
          let done : written_to buffer image ≡ (Ok n, after) =
          ap₂ (λ (f : Amount) (b : List ℕ). (f, b)) (image-same _ (ap (λ (p : WriteAnswer × List ℕ). p.0) q)) (ap (λ (p : WriteAnswer × List ℕ). p.1) q) in
          (sound, front-done buffer image after n done)
      at (Err fault) faulty q = absurd (refused-image (ap (λ (p : WriteAnswer × List ℕ). p.0) q))
