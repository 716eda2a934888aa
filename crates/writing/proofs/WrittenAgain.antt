-- An accepted image, if made of bytes, is given again by the writer that is lent its edition, its profile and its records without their blocks. Assumes
-- nothing.
use Rattle.std.proofs.Common.{Ok, Err}
use Rattle.writing.specs.declared.answers.WriteRefusal.TheVariants.{Lent}
use Prim.Native.Nat.{ℕ, ◌%◌}
use mathlib.Core.Path.{◌≡◌, refl, sym, ap, ap₂, ◌∙◌, subst, fun_ext}
use mathlib.Core.List.{List, flatten}
use native.Mathlib.Nat.{mul-mod_right}
use native.Mathlib.Omega.{arith}
use lib.ListN.{length}
use Rattle.fields.specs.Bytes.{byte_at, AreBytes}
use Rattle.buffers.specs.Filling.{written_to}
use Rattle.header.specs.declared.layout.Kind.{Kind}
use Rattle.header.specs.declared.layout.Kind.TheVariants.{Component, Label, User}
use Rattle.header.specs.declared.counts.Counts.{Counts}
use Rattle.header.specs.Layout.{edition_of, profile_of, counts_of, record_size, records_of}
use Rattle.header.proofs.Inside.{records-count}
use Rattle.records.specs.Rules.{run_records}
use Rattle.image.specs.Check.{IsAccepted}
use Rattle.image.proofs.EveryRule.{accepted-keeps}
use Rattle.image.proofs.Policy.{component-among}
use Rattle.writing.specs.Laid.{image_of, Limited}
use Rattle.writing.specs.Lent.{LentCheck, bytes_by, lent_records, lent_counts, LentWhole, records_check, lent_check}
use Rattle.writing.specs.Calls.{written_answer, lent_image, on_sound, image_to, write_of}
use Rattle.writing.proofs.Packed.{flatten-length}
use Rattle.records.proofs.BlockRuns.{size-some}
use Rattle.writing.proofs.Runs.{run-split}
use Rattle.writing.proofs.ClassTotals.{own-counts}
use Rattle.writing.proofs.LentLayout.{layout-holds}
use Rattle.writing.proofs.SoundLent.{layout-told}
use Rattle.writing.proofs.LaidAgain.{own-sized, own-fits, own-limited, own-sound, laid-again}

module _ (im : List ℕ) (acc : IsAccepted im) where
  abbrev n : Counts
  n = counts_of im

  abbrev records : Kind → List (List ℕ)
  records = records_of im

  -- ---- its records, lent without blocks
  abbrev bytes_of : Kind → List ℕ
  bytes_of = bytes_by (flatten (records Component)) (flatten (records Label)) (flatten (records User))

  lent-kind : (kind : Kind) → bytes_of kind ≡ flatten (records kind)
  lent-kind Component = refl
  lent-kind Label = refl
  lent-kind User = refl

  lent_same : lent_records (edition_of im) bytes_of ≡ records
  lent_same =
      fun_ext
      (λ kind.
      ap (run_records (record_size (edition_of im) kind)) (lent-kind kind)
      ∙ run-split (record_size (edition_of im) kind) (size-some (edition_of im) kind) (records kind) (own-sized im acc kind))

  classes-same : lent_counts (edition_of im) (profile_of im) (records Component) ≡ n
  classes-same =
      own-counts n (records Component) (own-fits im acc).components
      (λ i h. (component-among im acc i (omega (arith, records-count im Component))).kept.classed)

  counts_same : lent_counts (edition_of im) (profile_of im) (lent_records (edition_of im) bytes_of Component) ≡ n
  counts_same = ap (λ (rs : Kind → List (List ℕ)). lent_counts (edition_of im) (profile_of im) (rs Component)) lent_same ∙ classes-same

  whole : (kind : Kind) → length (bytes_of kind) % record_size (edition_of im) kind ≡ 0
  whole kind =
      ap (λ (s : List ℕ). length s % record_size (edition_of im) kind) (lent-kind kind)
      ∙ ap (λ (k : ℕ). k % record_size (edition_of im) kind) (flatten-length (record_size (edition_of im) kind) (records kind) (own-sized im acc kind))
      ∙ mul-mod_right (record_size (edition_of im) kind) (length (records kind))

  -- ---- so the writer tells no fault
  own-whole : LentWhole (byte_at im 4) (byte_at im 12) bytes_of
  unfolding edition_of profile_of
  own-whole =
      let k = (accepted-keeps im acc).header in
      let own : Limited (lent_counts (edition_of im) (profile_of im) (records Component)) (length (records User)) (length (records Label)) =
      subst (λ (m : Counts). Limited m (length (records User)) (length (records Label))) (sym classes-same) (own-limited im acc) in
      record {
        edition_known = k.edition;
        profile_known = k.profile;
        whole = whole;
        limited =
            subst
            (λ (rs : Kind → List (List ℕ)).
            Limited (lent_counts (edition_of im) (profile_of im) (rs Component)) (length (rs User)) (length (rs Label)))
            (sym lent_same) own;
      }

  own-check : lent_check (byte_at im 4) (byte_at im 12) bytes_of ≡ Ok tt
  unfolding edition_of profile_of
  own-check =
      layout-told (byte_at im 4) (byte_at im 12) bytes_of (layout-holds (byte_at im 4) (byte_at im 12) bytes_of own-whole)
      ∙ ap₂ records_check counts_same lent_same ∙ own-sound im acc

  -- ---- and writes the image
  module _ (bytes : AreBytes im) where
    own-image : lent_image (byte_at im 4) (byte_at im 12) bytes_of ≡ im
    unfolding lent_image edition_of profile_of
    own-image = ap₂ image_of counts_same lent_same ∙ laid-again im acc bytes

    pub written-again : (buffer : List ℕ)
        → write_of (byte_at im 4) (byte_at im 12) (flatten (records_of im Component)) (flatten (records_of im Label)) (flatten (records_of im User)) buffer
        ≡ (written_answer (written_to buffer im).0, (written_to buffer im).1)
    unfolding write_of
    written-again buffer =
        let image = lent_image (byte_at im 4) (byte_at im 12) bytes_of in
        ap (λ (c : LentCheck). on_sound c (λ fault. (Err (Lent fault), buffer)) (image_to buffer image)) own-check
        ∙ ap (image_to buffer) own-image
