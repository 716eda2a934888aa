-- A tag looked for by halves: n steps settle every number of labels below 2 ^ n. Assumes nothing.
use Prim.Native.Nat.{ℕ, zero, suc, ◌+◌, ◌-◌, ◌^◌, ◌≤◌, ◌<◌}
use mathlib.Core.Path.{◌≡◌, refl, sym, ap, ◌∙◌, subst}
use mathlib.Core.Bool.{Bool, true, false, cond, not}
use mathlib.Core.List.{List}
use mathlib.Core.Logic.{⊎_elim}
use native.Mathlib.Nat.{le_refl, eq-or-lt_of_le, two-pow-succ}
use native.Mathlib.Omega.{arith}
use borrow.Author.Tests.{eqb-true, eqb-false, ltb-true, ltb-false}
use lib.Dec.{eqb, ltb}
use lib.Pow.{pow_pos}
use Rattle.fields.proofs.Scan.{bad-upto}
use Rattle.header.specs.declared.edition.Edition.{Edition}
use Rattle.header.specs.declared.edition.Edition.TheVariants.{Two}
use Rattle.header.specs.Layout.{edition_of, labels, label_record}
use Rattle.header.specs.Limits.{limits_in}
use Rattle.header.proofs.Editions.{counted-labels}
use Rattle.records.specs.Fields.{tag_of}
use Rattle.image.specs.Check.{IsAccepted}
use Rattle.image.specs.Lookup.{label_of_tag}
use Rattle.image.specs.Search.{search_within, search_steps, search_tag}
use Rattle.image.proofs.Accepted.{accepted-counted}
use Rattle.image.proofs.Policy.{tags-rising, label-found, label-carries}

-- the tag of the label record at place k
abbrev pub tag_at : List ℕ → ℕ → ℕ
tag_at im k = tag_of (label_record im k)

-- where a step looks that has n steps after it: the middle of its places
abbrev pub middle_of : ℕ → ℕ → ℕ
middle_of n low = low + 2 ^ n - 1

-- the tags before the 2 ^ n - 1 places from low on are below the given one, the tags after them above it
pub record Outside (im : List ℕ) (tag n low : ℕ) : Type 0 where
  pub before : (j : ℕ) → j < low → tag_at im j < tag
  pub after : (j : ℕ) → low + 2 ^ n ≤ j + 1 → j < labels im → tag < tag_at im j

module _ (im : List ℕ) (tag : ℕ) where
  -- where no place is left, no record carries the tag
  none_left : (low : ℕ) → Outside im tag 0 low → labels im ≡ label_of_tag im tag
  unfolding label_of_tag
  none_left low b = at (ltb (label_of_tag im tag) (labels im)) refl
    where
      at : (t : Bool) → ltb (label_of_tag im tag) (labels im) ≡ t → labels im ≡ label_of_tag im tag
      at true e =
          let p : ℕ = label_of_tag im tag in
          let h : p < labels im = ltb-true _ _ e in
          let q : tag_at im p ≡ tag = label-carries im tag h in
          absurd (side p h q (ltb p low) refl)
        where
          side : (p : ℕ) → p < labels im → tag_at im p ≡ tag → (t : Bool) → ltb p low ≡ t → ⊥
          side p h q true d = omega (arith, b.before p (ltb-true p low d))
          side p h q false d = let l : low ≤ p = ltb-false _ _ d in omega (arith, b.after p (omega arith) h)
      at false e =
          let upto = bad-upto (λ j. not (eqb (tag_at im j) tag)) (labels im) 0 in
          omega (arith, ltb-false (label_of_tag im tag) (labels im) e, upto)

  module _ (acc : IsAccepted im) where
    not_after : (j k : ℕ) → j ≤ k → k < labels im → tag_at im j ≤ tag_at im k
    not_after j k h l =
        ⊎_elim (λ q. rw q (le_refl (tag_at im k))) (λ m. omega (arith, tags-rising im acc j k m l)) (eq-or-lt_of_le h)

    found_here : (k : ℕ) → k < labels im → tag_at im k ≡ tag → k ≡ label_of_tag im tag
    found_here k h e = sym (label-found im acc k h) ∙ ap (label_of_tag im) e

    -- the places that a step leaves
    module _ (n low : ℕ) (b : Outside im tag (suc n) low) where
      past-middle : labels im ≤ middle_of n low → Outside im tag n low
      past-middle h = record { before = b.before; after = λ j i u. absurd (omega arith) }

      after-middle : middle_of n low < labels im → tag_at im (middle_of n low) < tag → Outside im tag n (middle_of n low + 1)
      after-middle h l = record {
        before = λ j i. omega (arith, not_after j (middle_of n low) (omega arith) h);
        after = λ j i u. b.after j (omega (arith, two-pow-succ n, pow_pos n)) u;
      }

      before-middle : tag < tag_at im (middle_of n low) → Outside im tag n low
      before-middle l = record {
        before = b.before;
        after = λ j i u. omega (arith, not_after (middle_of n low) j (omega arith) u);
      }

    -- n steps find what there is among the 2 ^ n - 1 places
    pub settles : (n low : ℕ) → Outside im tag n low → search_within im tag n low ≡ label_of_tag im tag
    unfolding search_within
    settles zero low b = none_left low b
    settles (suc n) low b =
        let m : ℕ = middle_of n low in
        at (ltb m (labels im)) refl (ltb (tag_at im m) tag) refl (eqb (tag_at im m) tag) refl (settles n low) (settles n (m + 1))
      where
        at : (t : Bool) → ltb (middle_of n low) (labels im) ≡ t
            → (u : Bool) → ltb (tag_at im (middle_of n low)) tag ≡ u
            → (v : Bool) → eqb (tag_at im (middle_of n low)) tag ≡ v
            → (Outside im tag n low → search_within im tag n low ≡ label_of_tag im tag)
            → (Outside im tag n (middle_of n low + 1) → search_within im tag n (middle_of n low + 1) ≡ label_of_tag im tag)
            → cond t (cond u (search_within im tag n (middle_of n low + 1)) (cond v (middle_of n low) (search_within im tag n low)))
            (search_within im tag n low)
            ≡ label_of_tag im tag
        at false e u d v q below above = below (past-middle n low b (ltb-false _ _ e))
        at true e true d v q below above = above (after-middle n low b (ltb-true _ _ e) (ltb-true _ _ d))
        at true e false d true q below above = found_here (middle_of n low) (ltb-true _ _ e) (eqb-true _ _ q)
        at true e false d false q below above =
            let most : tag ≤ tag_at im (middle_of n low) = ltb-false _ _ d in
            let other : tag_at im (middle_of n low) ≡ tag → ⊥ = eqb-false _ _ q in
            below (before-middle n low b (omega arith))

    -- among all labels
    pub steps-settle : (n : ℕ) → labels im < 2 ^ n → search_within im tag n 0 ≡ label_of_tag im tag
    steps-settle n few =
        settles n 0 (record { before = λ j i. absurd (omega arith); after = λ j i u. absurd (omega arith) })

    -- so 11 steps settle every accepted image, which has at most 1,680 labels
    pub eleven-steps : search_tag im tag ≡ label_of_tag im tag
    unfolding search_tag
    eleven-steps = steps-settle search_steps (omega (arith, counted-labels im (accepted-counted im acc)))

    -- and 10 steps one of edition 2, which has at most 800
    pub ten-steps : edition_of im ≡ Two → search_within im tag 10 0 ≡ label_of_tag im tag
    ten-steps e =
        let few : labels im ≤ 800 = subst (λ (edition : Edition). labels im ≤ (limits_in edition).labels) e (accepted-counted im acc).labels_limit in
        steps-settle 10 (omega arith)
