-- An accepted image that is made of bytes is what is laid out from its own counts and records, byte for byte. Assumes nothing.
use Rattle.std.proofs.Common.{Ok}
use Prim.Native.Nat.{ℕ, zero, suc, ◌+◌, ◌*◌, ◌/◌, ◌%◌, ◌≤◌, ◌<◌}
use mathlib.Core.Path.{◌≡◌, ap, ◌∙◌, subst}
use mathlib.Core.Bool.{Bool, true}
use mathlib.Core.List.{List}
use native.Mathlib.Nat.{div-add-mod}
use native.Mathlib.Omega.{arith}
use borrow.Author.Tests.{le-ltb}
use lib.ListN.{length}
use lib.Seq.{ext_get_or}
use Rattle.fields.specs.Bytes.{byte_at, AreBytes}
use Rattle.fields.specs.Scan.{first_bad}
use Rattle.fields.proofs.Scan.{all-good}
use Rattle.header.specs.declared.layout.Kind.{Kind}
use Rattle.header.specs.declared.layout.Kind.TheVariants.{Component, Label, User}
use Rattle.header.specs.declared.counts.Counts.{Counts}
use Rattle.header.specs.Layout.{edition_of, groups, users, labels, components, counts_of}
use Rattle.header.specs.Layout.{record_size, count_of, blocks_needed, record_at, contents_of, records_of}
use Rattle.header.proofs.Inside.{held-is, record-length, records-count, record_of}
use Rattle.records.specs.Rules.{rule_of}
use Rattle.hierarchy.specs.Forest.{first_ring_in}
use Rattle.hierarchy.specs.Below.{forest_of, ends_rule, first_bad_sets, group_sets_rule}
use Rattle.image.specs.Check.{IsAccepted}
use Rattle.image.proofs.Accepted.{keeps}
use Rattle.image.proofs.EveryRule.{EveryRule, accepted-keeps}
use Rattle.image.proofs.Policy.{record-kept}
use Rattle.writing.specs.Laid.{Sized, image_of, Fits, Limited}
use Rattle.writing.specs.Lent.{first_bad_of, records_check}
use Rattle.writing.proofs.Counted.{counts-are, users-is, labels-is}
use Rattle.writing.proofs.ReadBack.{record_is}
use Rattle.writing.proofs.ToldAlike.{sound-accepted}
use Rattle.writing.proofs.SameBytes.{needed-same, body_same, block_same}
use Rattle.writing.proofs.SameHeader.{header-same}
use Rattle.writing.proofs.CountBytes.{count-bytes}

module _ (im : List ℕ) (acc : IsAccepted im) where
  abbrev n : Counts
  n = counts_of im

  abbrev records : Kind → List (List ℕ)
  records = records_of im

  abbrev new : List ℕ
  new = image_of n records

  old : EveryRule im
  old = accepted-keeps im acc

  -- ---- the records of an accepted image can be laid out
  pub own-sized : (kind : Kind) → Sized (record_size (edition_of im) kind) (records kind)
  own-sized kind i h =
      let here : i < count_of im kind = omega (arith, records-count im kind) in
      ap length (record_of im kind i here) ∙ record-length im old.fitted kind i here

  pub own-fits : Fits n records
  unfolding components
  own-fits = record { sizes = own-sized; components = records-count im Component }

  pub own-limited : Limited n (length (records User)) (length (records Label))
  own-limited =
      let k = old.header in
      record {
        levels_some = k.levels_some;
        levels_limit = k.levels_limit;
        compartments_limit = k.compartments_limit;
        groups_limit = k.groups_limit;
        users_limit = rw (records-count im User) k.users_limit;
        labels_limit = rw (records-count im Label) k.labels_limit;
      }

  -- ---- and no fault is told of them
  none-bad : (rule : ℕ → Bool) (count : ℕ) → ((i : ℕ) → i < count → rule i ≡ true) → count ≤ first_bad rule count 0
  none-bad rule count kept = omega (arith, all-good rule count 0 (λ i low high. kept i (omega arith)))

  kind-kept : (kind : Kind) → length (records kind) ≤ first_bad_of n records kind
  kind-kept kind =
      none-bad (rule_of kind n (records kind)) (length (records kind)) (λ i h. record-kept im acc kind i (omega (arith, records-count im kind)))

  ends-kept : groups im ≤ first_ring_in (forest_of im)
  unfolding first_ring_in
  ends-kept = none-bad (ends_rule im) (groups im) (keeps im acc).ends

  sets-kept : length (records User) ≤ first_bad_sets n (records Component) (records User)
  unfolding first_bad_sets
  sets-kept = none-bad (group_sets_rule im) (length (records User)) (λ u h. (keeps im acc).below u (omega (arith, records-count im User)))

  pub own-sound : records_check n records ≡ Ok tt
  unfolding records_check
  own-sound =
      rw (
        le-ltb _ _ (kind-kept Component),
        le-ltb _ _ (kind-kept Label),
        le-ltb _ _ (kind-kept User),
        le-ltb _ _ ends-kept,
        le-ltb _ _ sets-kept,
      )

  kept : EveryRule new
  kept = accepted-keeps new (sound-accepted n records own-fits own-limited own-sound)

  -- ---- what is laid out has the same counts and records
  counts : counts_of new ≡ n
  counts = counts-are n records own-fits

  users-same : users new ≡ users im
  users-same = users-is n records own-fits ∙ records-count im User

  labels-same : labels new ≡ labels im
  labels-same = labels-is n records own-fits ∙ records-count im Label

  record_same : (kind : Kind) (i : ℕ) → i < count_of im kind → record_at new kind i ≡ record_at im kind i
  record_same kind i h = record_is n records own-fits kind i (omega (arith, records-count im kind)) ∙ record_of im kind i h

  -- ---- and the same bytes
  module _ (bytes : AreBytes im) where
    block_of : (b : ℕ) → b < blocks_needed im → (j : ℕ) → j < 512 → byte_at new (512 * b + j) ≡ byte_at im (512 * b + j)
    block_of zero high =
        block_same im new old kept counts users-same labels-same 0 high
        (header-same im new old kept counts users-same labels-same bytes (count-bytes n records own-fits own-limited))
    block_of (suc b) high =
        let low : 1 ≤ suc b = omega arith in
        block_same im new old kept counts users-same labels-same (suc b) high
        (λ j h. body_same im new old kept counts users-same labels-same (suc b) low high j h
        (λ i k from to inside at.
        ap (λ (rec : List ℕ). byte_at rec k)
        (record_same (contents_of im (suc b)).kind i (omega (arith, (held-is im (suc b) low high).counted)))))

    as_long : length new ≡ length im
    as_long =
        let needed = needed-same im new old kept counts users-same labels-same in
        omega (arith, old.fitted, kept.fitted)

    byte-same : (i : ℕ) → i < length im → byte_at new i ≡ byte_at im i
    byte-same i h =
        let there : 512 * (i / 512) + i % 512 ≡ i = div-add-mod i 512 in
        let inside : i / 512 < blocks_needed im = omega (arith, old.fitted) in
        subst (λ (k : ℕ). byte_at new k ≡ byte_at im k) there (block_of (i / 512) inside (i % 512) (omega arith))

    pub laid-again : image_of (counts_of im) (records_of im) ≡ im
    laid-again = ext_get_or 0 new im as_long (λ i h. byte-same i (omega (arith, as_long)))
