-- What a move writes of an accepted image of edition 1 is accepted. Assumes nothing.
use Prim.Native.Nat.{ℕ, ◌≤◌, ◌<◌, zero-le}
use mathlib.Core.Path.{◌≡◌, sym, ap, ◌∙◌, subst}
use mathlib.Core.Bool.{true}
use mathlib.Core.List.{List}
use native.Mathlib.Omega.{arith}
use borrow.Author.Tests.{eqb-true}
use lib.Dec.{eqb}
use lib.ListN.{length}
use Rattle.header.specs.declared.edition.Edition.{Edition}
use Rattle.fields.proofs.Both.{parts}
use Rattle.fields.proofs.PlacesWhere.{none-where}
use Rattle.sets.specs.Sets.{difference}
use Rattle.header.specs.declared.edition.Edition.TheVariants.{One}
use Rattle.header.specs.declared.layout.Kind.{Kind}
use Rattle.header.specs.declared.layout.Kind.TheVariants.{Component, Label, User}
use Rattle.header.specs.declared.counts.Counts.{Counts}
use Rattle.header.specs.Layout.{edition_of, profile_of, levels, compartments, groups, users, counts_of, record_size, count_of, records_of, user_record}
use Rattle.header.specs.Limits.{Counted}
use Rattle.header.proofs.Inside.{records-count, record_of}
use Rattle.records.specs.Fields.{privileges}
use Rattle.records.specs.Rules.{rule_of, record_rule}
use Rattle.records.proofs.MeaningHeader.{header-means}
use Rattle.records.proofs.MeaningBlocks.{layout-means, contents-kept}
use Rattle.records.proofs.MeaningComponents.{ComponentAmong, component-holds}
use Rattle.records.proofs.MeaningLabels.{LabelAmong, label-holds}
use Rattle.records.proofs.MeaningUsers.{PrivilegesKept, UserAmong, user-holds}
use Rattle.image.specs.Check.{IsAccepted}
use Rattle.image.proofs.Accepted.{keeps, kept-accepted, accepted-counted}
use Rattle.image.proofs.Policy.{component-among, label-among, user-among}
use Rattle.writing.specs.Laid.{counts_from, Sized, Fits}
use Rattle.writing.proofs.Sound.{blocks-right, layout-right}
use Rattle.writing.proofs.HeaderSound.{header-right, fit-right, length-right}
use Rattle.moves.specs.declared.target.Move.{Move}
use Rattle.moves.specs.declared.target.Move.TheVariants.{Up, Clear}
use Rattle.moves.specs.Moved.{edition_after, new_records, new_counts, new_image, without_compaccess}
use Rattle.moves.specs.Holders.{is_holder, holders}
use Rattle.moves.specs.Moving.{move_limits_rule}
use Rattle.moves.proofs.RecordsAlike.{held_after}
use Rattle.moves.proofs.CompaccessBits.{bit-gone}
use Rattle.moves.proofs.NewImage.{taken_rule, new-fits, new-limited, old-groups, old-length, moved-counts, moved-count, moved-records}
use Rattle.moves.proofs.RecordsKept.{component-among-up, label-among-up, user-among-up}
use Rattle.moves.proofs.HoldsSame.{HoldsTheSame, moved_holds}
use Rattle.moves.proofs.SameGroups.{ends-alike, sets-rule-alike}

-- COMPACCESS is gone where the new edition does not have it
module _ (im : List ℕ) where
  held_kept : (which : Move) → taken_rule which im ≡ true → (u : ℕ) → u < users im → PrivilegesKept One (profile_of im) (privileges (user_record im u))
      → PrivilegesKept (edition_after which) (profile_of im) (held_after which (privileges (user_record im u)))
  unfolding holders without_compaccess difference
  held_kept Up taken u h k =
      let none = eqb-true _ _ (parts (move_limits_rule im) (eqb (length (holders im)) 0) taken).1 in
      record { limit = k.limit; compaccess_gone = λ two. none-where (is_holder im) (users im) 0 none u zero-le (omega arith) }
  held_kept Clear taken u h k = record { limit = omega (arith, k.limit); compaccess_gone = λ banned. bit-gone (privileges (user_record im u)) }

module _ (which : Move) (im : List ℕ) (acc : IsAccepted im) (old : edition_of im ≡ One) where
  abbrev new : List ℕ
  new = new_image which im

  known : Counted im
  known = accepted-counted im acc

  -- it holds the same components, labels and users
  pub accepted-holds : HoldsTheSame (held_after which) im new
  accepted-holds = moved_holds which im known old

  -- ---- its records keep their rules
  old-counts : counts_of im ≡ counts_from One (profile_of im) (levels im) (compartments im) (groups im)
  old-counts = ap (λ (e : Edition). counts_from e (profile_of im) (levels im) (compartments im) (groups im)) old

  sized : (kind : Kind) → Sized (record_size One kind) (records_of im kind)
  sized kind i h =
      let here : i < count_of im kind = omega (arith, records-count im kind) in
      ap length (record_of im kind i here) ∙ old-length im known.fitted old kind i here

  listed : (kind : Kind) (i : ℕ) → i < count_of im kind → i < length (records_of im kind)
  listed kind i h = omega (arith, records-count im kind)

  module _ (taken : taken_rule which im ≡ true) where
    record-up : (kind : Kind) (i : ℕ) → i < count_of im kind → rule_of kind (new_counts which im) (new_records which im kind) i ≡ true
    record-up Component i h =
        let few : groups im ≤ 255 = omega (arith, old-groups im old known.groups_limit) in
        component-holds (new_counts which im) (new_records which im Component) i
        (component-among-up which (profile_of im) (levels im) (compartments im) (groups im) (records_of im Component) i (listed Component i h) few
        (sized Component) (subst (λ (n : Counts). ComponentAmong n (records_of im Component) i) old-counts (component-among im acc i h)))
    record-up Label i h =
        label-holds (new_counts which im) (new_records which im Label) i
        (label-among-up which (profile_of im) (levels im) (compartments im) (groups im) (records_of im Label) i (listed Label i h)
        (sized Label) (subst (λ (n : Counts). LabelAmong n (records_of im Label) i) old-counts (label-among im acc i h)))
    record-up User i h =
        let among = subst (λ (n : Counts). UserAmong n (records_of im User) i) old-counts (user-among im acc i h) in
        let here = record_of im User i h in
        let before = subst (λ (rec : List ℕ). PrivilegesKept One (profile_of im) (privileges rec)) here among.kept.privileges_kept in
        let after =
        subst (λ (rec : List ℕ). PrivilegesKept (edition_after which) (profile_of im) (held_after which (privileges rec))) (sym here)
        (held_kept im which taken i h before) in
        user-holds (new_counts which im) (new_records which im User) i
        (user-among-up which (profile_of im) (levels im) (compartments im) (groups im) (records_of im User) i (listed User i h) (sized User) after among)

    record-kept : (kind : Kind) (i : ℕ) → i < count_of new kind → record_rule new kind i ≡ true
    record-kept kind i h =
        rw (moved-counts which im known.fitted old, moved-records which im known.fitted old kind)
        (record-up kind i (omega (arith, moved-count which im known.fitted old kind)))

  -- ---- and so it is accepted
  fits : Fits (new_counts which im) (new_records which im)
  fits = new-fits which im known.fitted old

  pub moved-accepted : taken_rule which im ≡ true → IsAccepted new
  unfolding new_image
  moved-accepted taken =
      let limited = new-limited im (header-means im (keeps im acc).header) old which taken in
      let same = accepted-holds in
      kept-accepted new
      (record {
        length = length-right (new_counts which im) (new_records which im) fits limited;
        blocks = blocks-right (new_counts which im) (new_records which im) fits;
        header = header-right (new_counts which im) (new_records which im) fits limited;
        fit = fit-right (new_counts which im) (new_records which im) fits;
        contents = λ b low high.
            contents-kept new (record-kept taken) b low high (layout-means new b (layout-right (new_counts which im) (new_records which im) fits b low high));
        ends = λ g h.
            let here : g < groups im = omega (arith, same.same_groups) in
            ends-alike im new same g here ∙ (keeps im acc).ends g here;
        below = λ u h.
            let here : u < users im = omega (arith, same.same_users) in
            sets-rule-alike im new same u here ∙ (keeps im acc).below u here;
      })
