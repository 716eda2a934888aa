-- What the header's rules mean, both ways: a rule holds exactly if what it says holds. Assumes nothing.
use Rattle.std.proofs.Common.{◌≡◌, ℕ, ◌*◌, ◌<◌, ◌≤◌, true, eqb, ◌⊎◌, List, length, inl, inr, ⊎_elim, eq-eqb, eqb-true, le-leb, leb-true}
use Rattle.fields.specs.Bytes.{byte_at}
use Rattle.fields.proofs.Both.{parts, either, or_left, or_right}
use Rattle.fields.proofs.Meaning.{zero-part, part-zero}
use Rattle.header.specs.declared.edition.Edition.{Edition}
use Rattle.header.specs.declared.edition.Edition.TheVariants.{One, Two}
use Rattle.header.specs.Layout.{edition_of, levels, compartments, groups, users, labels, blocks_needed, Fitted}
use Rattle.header.specs.Header.{edition_rule, counts_rule, unused_rule, header_rule, fit_rule}
use Rattle.header.specs.Limits.{limits_of, Counted}

-- the bytes that the edition does not use
abbrev pub UnusedKept : Edition → List ℕ → Type 0
UnusedKept One im = (i : ℕ) → 13 ≤ i → i < 510 → byte_at im i ≡ 0
UnusedKept Two im =
    (byte_at im 7 ≡ 0) × (((i : ℕ) → 13 ≤ i → i < 14 → byte_at im i ≡ 0) × ((i : ℕ) → 16 ≤ i → i < 510 → byte_at im i ≡ 0))

pub unused-means : (edition : Edition) (im : List ℕ) → unused_rule edition im ≡ true → UnusedKept edition im
unused-means One im e = zero-part im 13 497 e
unused-means Two im e =
    let q2 = parts _ _ e in
    let q1 = parts _ _ q2.0 in
    (eqb-true _ _ q1.0, (zero-part im 13 1 q1.1, zero-part im 16 494 q2.1))

pub unused-holds : (edition : Edition) (im : List ℕ) → UnusedKept edition im → unused_rule edition im ≡ true
unused-holds One im k = part-zero im 13 497 k
unused-holds Two im (byte, (before, after)) = rw (eq-eqb _ _ byte, part-zero im 13 1 before, part-zero im 16 494 after)

-- kind 80, 0 records, a known edition and profile, counts within their limits, the rest unused
pub record HeaderKept (im : List ℕ) : Type 0 where
  pub kind : byte_at im 0 ≡ 80
  pub none : byte_at im 1 ≡ 0
  pub edition : (byte_at im 4 ≡ 1) ⊎ (byte_at im 4 ≡ 2)
  pub profile : byte_at im 12 ≤ 1
  pub levels_some : 1 ≤ levels im
  pub levels_limit : levels im ≤ (limits_of im).levels
  pub compartments_limit : compartments im ≤ (limits_of im).compartments
  pub groups_limit : groups im ≤ (limits_of im).groups
  pub users_limit : users im ≤ (limits_of im).users
  pub labels_limit : labels im ≤ (limits_of im).labels
  pub unused : UnusedKept (edition_of im) im

pub header-means : (im : List ℕ) → header_rule im ≡ true → HeaderKept im
unfolding header_rule counts_rule
header-means im e =
    let q5 = parts _ _ e in
    let q4 = parts _ _ q5.0 in
    let q3 = parts _ _ q4.0 in
    let q2 = parts _ _ q3.0 in
    let q1 = parts _ _ q2.0 in
    let n5 = parts _ _ q4.1 in
    let n4 = parts _ _ n5.0 in
    let n3 = parts _ _ n4.0 in
    let n2 = parts _ _ n3.0 in
    let n1 = parts _ _ n2.0 in
    record {
      kind = eqb-true _ _ q1.0;
      none = eqb-true _ _ q1.1;
      edition = ⊎_elim (λ p. inl (eqb-true _ _ p)) (λ p. inr (eqb-true _ _ p)) (either _ _ q2.1);
      profile = leb-true _ _ q3.1;
      levels_some = leb-true _ _ n1.0;
      levels_limit = leb-true _ _ n1.1;
      compartments_limit = leb-true _ _ n2.1;
      groups_limit = leb-true _ _ n3.1;
      users_limit = leb-true _ _ n4.1;
      labels_limit = leb-true _ _ n5.1;
      unused = unused-means (edition_of im) im q5.1;
    }

edition-holds : (im : List ℕ) → (byte_at im 4 ≡ 1) ⊎ (byte_at im 4 ≡ 2) → edition_rule im ≡ true
edition-holds im = ⊎_elim (λ p. or_left _ _ (eq-eqb _ _ p)) (λ p. or_right (eqb (byte_at im 4) 1) _ (eq-eqb _ _ p))

pub header-holds : (im : List ℕ) → HeaderKept im → header_rule im ≡ true
unfolding header_rule counts_rule
header-holds im k =
    rw (
      eq-eqb _ _ k.kind,
      eq-eqb _ _ k.none,
      edition-holds im k.edition,
      le-leb _ _ k.profile,
      le-leb _ _ k.levels_some,
      le-leb _ _ k.levels_limit,
      le-leb _ _ k.compartments_limit,
      le-leb _ _ k.groups_limit,
      le-leb _ _ k.users_limit,
      le-leb _ _ k.labels_limit,
      unused-holds (edition_of im) im k.unused,
    )

-- there are as many blocks as the counts need
pub fit-means : (im : List ℕ) → fit_rule im ≡ true → Fitted im
unfolding fit_rule
fit-means im e = eqb-true (length im) (512 * blocks_needed im) e

pub fit-holds : (im : List ℕ) → Fitted im → fit_rule im ≡ true
unfolding fit_rule
fit-holds im e = eq-eqb (length im) (512 * blocks_needed im) e

-- what code may take for granted once both rules hold
pub counted : (im : List ℕ) → header_rule im ≡ true → fit_rule im ≡ true → Counted im
counted im h f =
    let k = header-means im h in
    record {
      fitted = fit-means im f;
      levels_limit = k.levels_limit;
      compartments_limit = k.compartments_limit;
      groups_limit = k.groups_limit;
      users_limit = k.users_limit;
      labels_limit = k.labels_limit;
    }
