-- The writer refuses records exactly if the image laid out from them is refused, with the same number at the same record or group. Assumes nothing.
use Rattle.std.proofs.Common.{Ok, Err}
use Prim.Native.Nat.{ℕ, zero-le, ◌<◌}
use mathlib.Core.Path.{◌≡◌, refl, ap, ap₂, ◌∙◌}
use mathlib.Core.Bool.{Bool, true, false, cond, ◌&&◌}
use mathlib.Core.List.{List}
use mathlib.Core.Logic.{inr}
use native.Mathlib.Omega.{arith}
use borrow.Author.Tests.{ltb-true, ltb-false}
use lib.Dec.{ltb}
use lib.ListN.{length}
use Rattle.fields.proofs.Both.{both}
use Rattle.fields.proofs.Scan.{good-before, bad-at}
use Rattle.header.specs.declared.layout.Kind.{Kind}
use Rattle.header.specs.declared.layout.Kind.TheVariants.{Component, Label, User}
use Rattle.header.specs.declared.counts.Counts.{Counts}
use Rattle.header.specs.Layout.{groups, count_of, first_block, blocks_needed, records_of}
use Rattle.header.specs.Header.{header_rule, fit_rule}
use Rattle.records.specs.Rules.{record_in, rule_of, record_rule}
use Rattle.hierarchy.specs.Forest.{ends_in, first_ring_in}
use Rattle.hierarchy.specs.Below.{forest_in, group_sets_in, first_bad_sets, ends_rule, group_sets_rule}
use Rattle.image.specs.Check.{check_of, IsAccepted}
use Rattle.image.specs.Exactly.{Framed, SoundBefore}
use Rattle.image.proofs.Exactly.{record-exactly, ring-exactly}
use Rattle.image.proofs.Accepted.{kept-accepted}
use Rattle.writing.specs.declared.answers.LentFault.TheVariants.{Record, Ring}
use Rattle.writing.specs.Laid.{image_of, Fits, Limited}
use Rattle.writing.specs.Lent.{first_bad_of, records_check}
use Rattle.writing.specs.InBlocks.{in_blocks}
use Rattle.writing.proofs.Counted.{counts-are, count-is, groups-is, users-is}
use Rattle.writing.proofs.Sound.{blocks-right, layout-right}
use Rattle.writing.proofs.HeaderSound.{header-right, fit-right, length-right}
use Rattle.writing.proofs.ReadBack.{records-are}
use Rattle.writing.proofs.LowestRecord.{all_sound, record-told}

module _ (n : Counts) (records : Kind → List (List ℕ)) (fits : Fits n records) (limited : Limited n (length (records User)) (length (records Label))) where
  abbrev im : List ℕ
  im = image_of n records

  framed : Framed im
  framed = record { length = length-right n records fits limited; blocks = blocks-right n records fits }

  header : (header_rule im && fit_rule im) ≡ true
  header = both _ _ (header-right n records fits limited) (fit-right n records fits)

  -- ---- the rules of the image are those of the records
  record_same : (kind : Kind) (i : ℕ) → record_rule im kind i ≡ rule_of kind n (records kind) i
  record_same kind i = ap₂ (λ (m : Counts) (rs : List (List ℕ)). rule_of kind m rs i) (counts-are n records fits) (records-are n records fits kind)

  ends_same : (g : ℕ) → ends_rule im g ≡ ends_in (forest_in n (records Component)) g
  ends_same g =
      ap₂ (λ (m : Counts) (rs : List (List ℕ)). ends_in (forest_in m rs) g) (counts-are n records fits) (records-are n records fits Component)

  sets_same : (u : ℕ) → group_sets_rule im u ≡ group_sets_in n (records Component) (record_in (records User) u)
  sets_same u =
      ap₂ (λ (m : Counts) (rs : List (List ℕ)). group_sets_in m rs (record_in (records_of im User) u)) (counts-are n records fits)
      (records-are n records fits Component)
      ∙ ap (λ (rs : List (List ℕ)). group_sets_in n (records Component) (record_in rs u)) (records-are n records fits User)

  -- ---- a record at fault
  abbrev bad : Kind → ℕ
  bad kind = first_bad_of n records kind

  abbrev Bad : Kind → Bool → Type 0
  Bad kind t = ltb (bad kind) (length (records kind)) ≡ t

  kept-before : (kind : Kind) (i : ℕ) → i < bad kind → record_rule im kind i ≡ true
  kept-before kind i h = record_same kind i ∙ good-before (rule_of kind n (records kind)) (length (records kind)) 0 i zero-le h

  kind-kept : (kind : Kind) → Bad kind false → (i : ℕ) → i < count_of im kind → record_rule im kind i ≡ true
  kind-kept kind e i h = kept-before kind i (omega (arith, ltb-false (bad kind) (length (records kind)) e, count-is n records fits kind))

  record-here : (kind : Kind) → Bad kind true
      → ((k : Kind) → first_block im k < first_block im kind → (j : ℕ) → j < count_of im k → record_rule im k j ≡ true)
      → check_of im ≡ in_blocks im (Err (Record kind (bad kind)))
  record-here kind e lower =
      let there : bad kind < length (records kind) = ltb-true (bad kind) (length (records kind)) e in
      let fault = bad-at (rule_of kind n (records kind)) (length (records kind)) 0 (omega arith) in
      record-told im framed header (layout-right n records fits) kind (bad kind) (omega (arith, count-is n records fits kind)) lower (kept-before kind)
      (record_same kind (bad kind) ∙ fault)

  component-told : Bad Component true → check_of im ≡ in_blocks im (Err (Record Component (bad Component)))
  unfolding first_block
  component-told e = record-here Component e none
    where
      none : (k : Kind) → first_block im k < first_block im Component → (j : ℕ) → j < count_of im k → record_rule im k j ≡ true
      none Component h j l = absurd (omega arith)
      none Label h j l = absurd (omega arith)
      none User h j l = absurd (omega arith)

  label-told : Bad Component false → Bad Label true → check_of im ≡ in_blocks im (Err (Record Label (bad Label)))
  unfolding first_block
  label-told c e = record-here Label e lower
    where
      lower : (k : Kind) → first_block im k < first_block im Label → (j : ℕ) → j < count_of im k → record_rule im k j ≡ true
      lower Component h j l = kind-kept Component c j l
      lower Label h j l = absurd (omega arith)
      lower User h j l = absurd (omega arith)

  user-told : Bad Component false → Bad Label false → Bad User true → check_of im ≡ in_blocks im (Err (Record User (bad User)))
  unfolding first_block
  user-told c b e = record-here User e lower
    where
      lower : (k : Kind) → first_block im k < first_block im User → (j : ℕ) → j < count_of im k → record_rule im k j ≡ true
      lower Component h j l = kind-kept Component c j l
      lower Label h j l = kind-kept Label b j l
      lower User h j l = absurd (omega arith)

  -- ---- no record at fault
  module _ (c : Bad Component false) (b : Bad Label false) (u : Bad User false) where
    all-kept : (kind : Kind) (i : ℕ) → i < count_of im kind → record_rule im kind i ≡ true
    all-kept Component = kind-kept Component c
    all-kept Label = kind-kept Label b
    all-kept User = kind-kept User u

    blocks : SoundBefore im (blocks_needed im)
    blocks = all_sound im framed header (layout-right n records fits) all-kept

    abbrev ring : ℕ
    ring = first_ring_in (forest_in n (records Component))

    ends-before : (g : ℕ) → g < ring → ends_rule im g ≡ true
    unfolding first_ring_in
    ends-before g h = ends_same g ∙ good-before (ends_in (forest_in n (records Component))) n.groups 0 g zero-le h

    ring-told : ltb ring n.groups ≡ true → check_of im ≡ in_blocks im (Err (Ring ring))
    unfolding first_ring_in
    ring-told e =
        let there : ring < n.groups = ltb-true ring n.groups e in
        (ring-exactly im framed ring).1
        (record {
          blocks = blocks;
          among = omega (arith, groups-is n records fits);
          earlier = ends-before;
          fault = ends_same ring ∙ bad-at (ends_in (forest_in n (records Component))) n.groups 0 (omega arith);
        })

    module _ (r : ltb ring n.groups ≡ false) where
      all_end : (g : ℕ) → g < groups im → ends_rule im g ≡ true
      all_end g h = ends-before g (omega (arith, ltb-false ring n.groups r, groups-is n records fits))

      abbrev user : ℕ
      user = first_bad_sets n (records Component) (records User)

      abbrev sets : ℕ → Bool
      sets v = group_sets_in n (records Component) (record_in (records User) v)

      sets-before : (v : ℕ) → v < user → group_sets_rule im v ≡ true
      unfolding first_bad_sets
      sets-before v h = sets_same v ∙ good-before sets (length (records User)) 0 v zero-le h

      sets-told : ltb user (length (records User)) ≡ true → check_of im ≡ in_blocks im (Err (Record User user))
      unfolding first_bad_sets
      sets-told e =
          let there : user < length (records User) = ltb-true user (length (records User)) e in
          (record-exactly im framed User _ _).1
          (inr (
            refl,
            (
              user,
              (
                record {
                  blocks = blocks;
                  rings = all_end;
                  among = omega (arith, users-is n records fits);
                  earlier = sets-before;
                  fault = sets_same user ∙ bad-at sets (length (records User)) 0 (omega arith);
                },
                record { block = refl; slot = refl },
              ),
            ),
          ))

      sound-told : ltb user (length (records User)) ≡ false → IsAccepted im
      sound-told e =
          kept-accepted im
          (record {
            length = framed.length;
            blocks = framed.blocks;
            header = header-right n records fits limited;
            fit = fit-right n records fits;
            contents = blocks.contents;
            ends = all_end;
            below = λ v h. sets-before v (omega (arith, ltb-false user (length (records User)) e, users-is n records fits));
          })

  -- ---- the check of the image tells what the writer tells of the records
  pub told-alike : check_of im ≡ in_blocks im (records_check n records)
  unfolding records_check
  told-alike =
      at (ltb (bad Component) (length (records Component))) refl (ltb (bad Label) (length (records Label))) refl
      (ltb (bad User) (length (records User))) refl
      (ltb (first_ring_in (forest_in n (records Component))) n.groups) refl
      (ltb (first_bad_sets n (records Component) (records User)) (length (records User))) refl
    where
      at : (c : Bool) → Bad Component c → (b : Bool) → Bad Label b → (u : Bool) → Bad User u
          → (r : Bool) → ltb (first_ring_in (forest_in n (records Component))) n.groups ≡ r
          → (s : Bool) → ltb (first_bad_sets n (records Component) (records User)) (length (records User)) ≡ s
          → check_of im
          ≡ in_blocks im
          (cond c (Err (Record Component (bad Component)))
          (cond b (Err (Record Label (bad Label)))
          (cond u (Err (Record User (bad User)))
          (cond r (Err (Ring (first_ring_in (forest_in n (records Component)))))
          (cond s (Err (Record User (first_bad_sets n (records Component) (records User)))) (Ok tt))))))
      at true c _ b _ u _ r _ s = component-told c
      at false c true b _ u _ r _ s = label-told c b
      at false c false b true u _ r _ s = user-told c b u
      at false c false b false u true r _ s = ring-told c b u r
      at false c false b false u false r true s = sets-told c b u r s
      at false c false b false u false r false s = sound-told c b u r s

  -- so records of which no fault is told give an accepted image
  pub sound-accepted : records_check n records ≡ Ok tt → IsAccepted im
  sound-accepted e = told-alike ∙ ap (in_blocks im) e
