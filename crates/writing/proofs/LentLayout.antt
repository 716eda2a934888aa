-- What is lent is refused 31 exactly unless its edition and profile are known, its lengths are whole records, and its counts are within their limits.
-- Assumes nothing.
use Prim.Native.Nat.{ℕ, ◌%◌, ◌≤◌}
use mathlib.Core.Path.{◌≡◌}
use mathlib.Core.Bool.{true}
use mathlib.Core.List.{List}
use mathlib.Core.Logic.{◌⊎◌, inl, inr, ⊎_elim}
use native.Mathlib.Omega.{arith}
use borrow.Author.Tests.{leb-true, eqb-true, le-leb, eq-eqb}
use lib.Dec.{eqb}
use lib.ListN.{length}
use Rattle.fields.proofs.Both.{parts, either, or_left, or_right}
use Rattle.sets.specs.Groups.{width}
use Rattle.header.specs.declared.edition.Edition.{Edition}
use Rattle.header.specs.declared.counts.Counts.{Counts}
use Rattle.header.specs.declared.layout.Kind.{Kind}
use Rattle.header.specs.declared.layout.Kind.TheVariants.{Component, Label, User}
use Rattle.header.specs.Layout.{edition_named, profile_named, record_size}
use Rattle.header.specs.Header.{known_edition, counts_within}
use Rattle.header.proofs.Editions.{most-groups}
use Rattle.writing.specs.Laid.{Limited}
use Rattle.writing.specs.Lent.{lent_records, lent_counts, lent_layout_rule, LentWhole}

-- ---- counts within their limits
pub counts-limited : (n : Counts) (users labels : ℕ) → counts_within n users labels ≡ true → Limited n users labels
counts-limited n users labels e =
    let q5 = parts _ _ e in
    let q4 = parts _ _ q5.0 in
    let q3 = parts _ _ q4.0 in
    let q2 = parts _ _ q3.0 in
    let q1 = parts _ _ q2.0 in
    record {
      levels_some = leb-true _ _ q1.0;
      levels_limit = leb-true _ _ q1.1;
      compartments_limit = leb-true _ _ q2.1;
      groups_limit = leb-true _ _ q3.1;
      users_limit = leb-true _ _ q4.1;
      labels_limit = leb-true _ _ q5.1;
    }

pub limited-counts : (n : Counts) (users labels : ℕ) → Limited n users labels → counts_within n users labels ≡ true
limited-counts n users labels l =
    rw (
      le-leb _ _ l.levels_some,
      le-leb _ _ l.levels_limit,
      le-leb _ _ l.compartments_limit,
      le-leb _ _ l.groups_limit,
      le-leb _ _ l.users_limit,
      le-leb _ _ l.labels_limit,
    )

-- ---- a known edition
edition-known : (edition : ℕ) → (edition ≡ 1) ⊎ (edition ≡ 2) → known_edition edition ≡ true
edition-known edition = ⊎_elim (λ p. or_left _ _ (eq-eqb _ _ p)) (λ p. or_right (eqb edition 1) _ (eq-eqb _ _ p))

-- ---- all of it
module _ (edition profile : ℕ) (bytes : Kind → List ℕ) where
  abbrev e : Edition
  e = edition_named edition

  abbrev n : Counts
  n = lent_counts e (profile_named profile) (lent_records e bytes Component)

  pub layout-means : lent_layout_rule edition profile bytes ≡ true → LentWhole edition profile bytes
  unfolding lent_layout_rule
  layout-means h =
      let q5 = parts _ _ h in
      let q4 = parts _ _ q5.0 in
      let q3 = parts _ _ q4.0 in
      let q2 = parts _ _ q3.0 in
      let q1 = parts _ _ q2.0 in
      record {
        edition_known = ⊎_elim (λ p. inl (eqb-true _ _ p)) (λ p. inr (eqb-true _ _ p)) (either _ _ q1.0);
        profile_known = leb-true _ _ q1.1;
        whole = λ kind. by_kind kind (eqb-true _ _ q2.1) (eqb-true _ _ q3.1) (eqb-true _ _ q4.1);
        limited = counts-limited n _ _ q5.1;
      }
    where
      by_kind : (kind : Kind) → length (bytes Component) % record_size e Component ≡ 0 → length (bytes Label) % record_size e Label ≡ 0
          → length (bytes User) % record_size e User ≡ 0 → length (bytes kind) % record_size e kind ≡ 0
      by_kind Component c l u = c
      by_kind Label c l u = l
      by_kind User c l u = u

  pub layout-holds : LentWhole edition profile bytes → lent_layout_rule edition profile bytes ≡ true
  unfolding lent_layout_rule
  layout-holds w =
      rw (
        edition-known edition w.edition_known,
        le-leb _ _ w.profile_known,
        eq-eqb _ _ (w.whole Component),
        eq-eqb _ _ (w.whole Label),
        eq-eqb _ _ (w.whole User),
        limited-counts n (length (lent_records e bytes User)) (length (lent_records e bytes Label)) w.limited,
      )

-- the compartments fit a word and the groups a set
pub limited-sets : (n : Counts) (users labels : ℕ) → Limited n users labels → (n.compartments ≤ 64) × (n.groups ≤ width)
limited-sets n users labels l = (omega (arith, l.compartments_limit), omega (arith, l.groups_limit, most-groups n.edition))

pub limited-levels : (n : Counts) (users labels : ℕ) → Limited n users labels → n.levels ≤ 256
limited-levels n users labels l = omega (arith, l.levels_limit)
