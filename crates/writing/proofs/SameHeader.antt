-- Two accepted images with the same counts, made of bytes, have the same header. Assumes nothing.
use Prim.Native.Nat.{ℕ, zero, suc, ◌+◌, ◌-◌, ◌*◌, ◌≤◌, ◌<◌}
use mathlib.Core.Path.{◌≡◌, refl, sym, ap, ◌∙◌, subst}
use mathlib.Core.Bool.{Bool, true, false, cond}
use mathlib.Core.List.{List}
use mathlib.Core.Logic.{⊎_elim}
use native.Mathlib.Numerals.{lt_of_le_of_ne}
use native.Mathlib.Omega.{arith}
use borrow.Author.Tests.{eqb-true, eqb-false, ltb-true, ltb-false}
use lib.Dec.{eqb, ltb}
use Rattle.fields.specs.Bytes.{byte_at, AreBytes, number2}
use Rattle.header.specs.declared.edition.Edition.{Edition}
use Rattle.header.specs.declared.edition.Edition.TheVariants.{One, Two}
use Rattle.header.specs.declared.profile.Profile.TheVariants.{Tree, Release}
use Rattle.header.specs.declared.counts.Counts.{Counts}
use Rattle.header.specs.Layout.{edition_of, profile_of, by_edition, levels, compartments, groups, users, labels, counts_of, blocks_needed}
use Rattle.records.proofs.MeaningHeader.{UnusedKept, HeaderKept}
use Rattle.image.proofs.EveryRule.{EveryRule}
use Rattle.writing.proofs.SameBytes.{place-bytes}

edition-byte : (im : List ℕ) → HeaderKept im → byte_at im 4 ≡ by_edition (edition_of im) 1 2
unfolding edition_of
edition-byte im k = ⊎_elim (λ e. rw e) (λ e. rw e) k.edition

module _ (im new : List ℕ) (old : EveryRule im) (kept : EveryRule new) (counts : counts_of new ≡ counts_of im)
    (users-same : users new ≡ users im) (labels-same : labels new ≡ labels im)
    (bytes : AreBytes im) (new-bytes : (i : ℕ) → 8 ≤ i → i < 16 → byte_at new i < 256) where
  edition-same : edition_of new ≡ edition_of im
  edition-same = ap (λ (n : Counts). n.edition) counts

  -- two bytes of a number
  low_same : (k : ℕ) → 8 ≤ k → k < 15 → number2 new k ≡ number2 im k
      → (byte_at new k ≡ byte_at im k) × (byte_at new (k + 1) ≡ byte_at im (k + 1))
  unfolding number2
  low_same k low high e =
      let a = bytes k in
      let b = new-bytes k low (omega arith) in
      (omega (arith, a, b), omega (arith, a, b))

  -- the profile is 1 or it is 0
  profile-byte : byte_at new 12 ≡ byte_at im 12
  unfolding profile_of
  profile-byte = at (eqb (byte_at im 12) 1) refl (eqb (byte_at new 12) 1) refl (ap (λ (n : Counts). n.profile) counts)
    where
      at : (s : Bool) → eqb (byte_at im 12) 1 ≡ s → (t : Bool) → eqb (byte_at new 12) 1 ≡ t → cond t Release Tree ≡ cond s Release Tree
          → byte_at new 12 ≡ byte_at im 12
      at true e true f q = eqb-true _ _ f ∙ sym (eqb-true _ _ e)
      at false e false f q =
          let a : byte_at new 12 < 1 = lt_of_le_of_ne kept.header.profile (eqb-false _ _ f) in
          let b : byte_at im 12 < 1 = lt_of_le_of_ne old.header.profile (eqb-false _ _ e) in
          omega arith
      at true e false f q = let z : ◌≡◌ {A = ℕ} 0 1 = cc in absurd (omega arith)
      at false e true f q = let z : ◌≡◌ {A = ℕ} 0 1 = cc in absurd (omega arith)

  -- ---- the number of groups, in byte 7 or in bytes 14 and 15, and the bytes that are not used
  abbrev Rest : Type 0
  Rest = (byte_at new 7 ≡ byte_at im 7) × ((i : ℕ) → 13 ≤ i → i < 510 → byte_at new i ≡ byte_at im i)

  rest_in : (edition : Edition) → UnusedKept edition new → UnusedKept edition im
      → by_edition edition (byte_at new 7) (number2 new 14) ≡ by_edition edition (byte_at im 7) (number2 im 14) → Rest
  rest_in One late early same = (same, λ i low high. late i low high ∙ sym (early i low high))
  rest_in Two (seven, (late, last)) (seven-im, (early, last-im)) same = (seven ∙ sym seven-im, λ i low high. at i low high (ltb i 14) refl (ltb i 16) refl)
    where
      number : (j : ℕ) → j < 2 → byte_at new (14 + j) ≡ byte_at im (14 + j)
      number zero h = (low_same 14 (omega arith) (omega arith) same).0
      number (suc zero) h = (low_same 14 (omega arith) (omega arith) same).1
      number (suc (suc j)) h = absurd (omega arith)

      at : (i : ℕ) → 13 ≤ i → i < 510 → (t : Bool) → ltb i 14 ≡ t → (u : Bool) → ltb i 16 ≡ u → byte_at new i ≡ byte_at im i
      at i low high true e u f = late i low (ltb-true i 14 e) ∙ sym (early i low (ltb-true i 14 e))
      at i low high false e true f =
          let after = ltb-false i 14 e in
          let there : 14 + (i - 14) ≡ i = omega arith in
          subst (λ (k : ℕ). byte_at new k ≡ byte_at im k) there (number (i - 14) (omega (arith, ltb-true i 16 f)))
      at i low high false e false f = last i (ltb-false i 16 f) high ∙ sym (last-im i (ltb-false i 16 f) high)

  rest : Rest
  unfolding groups
  rest =
      rest_in (edition_of im) (subst (λ (e : Edition). UnusedKept e new) edition-same kept.header.unused) old.header.unused
      (ap (λ (e : Edition). by_edition e (byte_at new 7) (number2 new 14)) (sym edition-same) ∙ ap (λ (n : Counts). n.groups) counts)

  -- ---- kind, number of records and place
  head_of : (j : ℕ) → j < 4 → byte_at new (0 + j) ≡ byte_at im (0 + j)
  unfolding blocks_needed
  head_of zero h = kept.header.kind ∙ sym old.header.kind
  head_of (suc zero) h = kept.header.none ∙ sym old.header.none
  head_of (suc (suc zero)) h = (place-bytes new kept 0 (omega arith)).0 ∙ sym (place-bytes im old 0 (omega arith)).0
  head_of (suc (suc (suc zero))) h = (place-bytes new kept 0 (omega arith)).1 ∙ sym (place-bytes im old 0 (omega arith)).1
  head_of (suc (suc (suc (suc j)))) h = absurd (omega arith)

  -- the edition and the counts
  counts_of_lem : (j : ℕ) → j < 9 → byte_at new (4 + j) ≡ byte_at im (4 + j)
  unfolding levels compartments users labels
  counts_of_lem zero h =
      edition-byte new kept.header ∙ ap (λ (e : Edition). by_edition e 1 2) edition-same ∙ sym (edition-byte im old.header)
  counts_of_lem (suc zero) h = ap (λ (n : Counts). n.levels) counts
  counts_of_lem (suc (suc zero)) h = ap (λ (n : Counts). n.compartments) counts
  counts_of_lem (suc (suc (suc zero))) h = rest.0
  counts_of_lem (suc (suc (suc (suc zero)))) h = (low_same 8 (omega arith) (omega arith) users-same).0
  counts_of_lem (suc (suc (suc (suc (suc zero))))) h = (low_same 8 (omega arith) (omega arith) users-same).1
  counts_of_lem (suc (suc (suc (suc (suc (suc zero)))))) h = (low_same 10 (omega arith) (omega arith) labels-same).0
  counts_of_lem (suc (suc (suc (suc (suc (suc (suc zero))))))) h = (low_same 10 (omega arith) (omega arith) labels-same).1
  counts_of_lem (suc (suc (suc (suc (suc (suc (suc (suc zero)))))))) h = profile-byte
  counts_of_lem (suc (suc (suc (suc (suc (suc (suc (suc (suc j))))))))) h = absurd (omega arith)

  pub header-same : (j : ℕ) → j < 510 → byte_at new (512 * 0 + j) ≡ byte_at im (512 * 0 + j)
  header-same j h = at (ltb j 4) refl (ltb j 13) refl
    where
      at : (t : Bool) → ltb j 4 ≡ t → (u : Bool) → ltb j 13 ≡ u → byte_at new (0 + j) ≡ byte_at im (0 + j)
      at true e u f = head_of j (ltb-true j 4 e)
      at false e true f =
          let low = ltb-false j 4 e in
          let there : 4 + (j - 4) ≡ 0 + j = omega arith in
          subst (λ (k : ℕ). byte_at new k ≡ byte_at im k) there (counts_of_lem (j - 4) (omega (arith, ltb-true j 13 f)))
      at false e false f =
          let low = ltb-false j 13 f in
          rest.1 (0 + j) (omega arith) (omega arith)
