-- How many of the component records that are lent name each class. Assumes nothing.
use Prim.Native.Nat.{ℕ, zero, suc, ◌+◌, ◌≤◌, ◌<◌}
use mathlib.Core.Path.{◌≡◌, refl, sym, ap, ◌∙◌}
use mathlib.Core.Bool.{Bool, true, false, cond}
use mathlib.Core.List.{List}
use mathlib.Core.Logic.{⊎_elim}
use native.Mathlib.Nat.{le_refl, eq-or-lt_of_le}
use native.Mathlib.Omega.{arith}
use borrow.Author.Tests.{eq-eqb, ne_eqb, eqb-true, eqb-false, leb-true, leb-false}
use lib.Dec.{eqb, leb, ltb}
use lib.ListN.{length}
use Rattle.fields.specs.Scan.{first_bad, places_where}
use Rattle.fields.proofs.Scan.{good-before, bad-upto}
use Rattle.fields.proofs.PlacesWhere.{where-here, where-not}
use Rattle.header.specs.declared.edition.Edition.{Edition}
use Rattle.header.specs.declared.profile.Profile.{Profile}
use Rattle.header.specs.declared.counts.Counts.{Counts}
use Rattle.header.specs.declared.layout.Kind.TheVariants.{Component}
use Rattle.header.specs.Layout.{class_at}
use Rattle.records.specs.Fields.{class_of}
use Rattle.records.specs.Rules.{record_in, rule_of}
use Rattle.records.proofs.MeaningComponents.{class-group, component-means}
use Rattle.writing.specs.Lent.{class_total, lent_counts, Classed}

-- ---- a test that holds at each of m places from a on holds at m places or more
pub where-run : (test : ℕ → Bool) (n k a m : ℕ) → k ≤ a → a + m ≤ k + n → ((i : ℕ) → a ≤ i → i < a + m → test i ≡ true)
    → m ≤ length (places_where test n k)
where-run test zero k a m low high holds = omega arith
where-run test (suc n) k a zero low high holds = omega arith
where-run test (suc n) k a (suc m) low high holds =
    ⊎_elim
    (λ (e : k ≡ a).
    let rest = where-run test n (suc k) (suc k) m (le_refl (suc k)) (omega arith) (λ i l h. holds i (omega arith) (omega arith)) in
    omega (arith, ap length (where-here test n k (holds k (omega arith) (omega arith)))))
    (λ (l : k < a). at (test k) refl (where-run test n (suc k) a (suc m) l (omega arith) holds))
    (eq-or-lt_of_le low)
  where
    at : (t : Bool) → test k ≡ t → suc m ≤ length (places_where test n (suc k)) → suc m ≤ length (places_where test (suc n) k)
    at true e ih = omega (arith, ap length (where-here test n k e))
    at false e ih = omega (arith, ap length (where-not test n k e))

-- ---- three classes
module _ (x : ℕ → ℕ) where
  abbrev total : ℕ → ℕ → ℕ → ℕ
  total class n k = length (places_where (λ i. eqb (x i) class) n k)

  total_here : (class n k : ℕ) → x k ≡ class → total class (suc n) k ≡ suc (total class n (suc k))
  total_here class n k e = ap length (where-here (λ i. eqb (x i) class) n k (eq-eqb (x k) class e))

  total-not : (class n k : ℕ) → (x k ≡ class → ⊥) → total class (suc n) k ≡ total class n (suc k)
  total-not class n k e = ap length (where-not (λ i. eqb (x i) class) n k (ne_eqb (x k) class e))

  -- what the first place adds to the three
  first-adds : (n k : ℕ) → ((1 ≤ x k) × (x k ≤ 3) → total 1 (suc n) k + total 2 (suc n) k + total 3 (suc n) k
      ≡ suc (total 1 n (suc k) + total 2 n (suc k) + total 3 n (suc k)))
      × (total 1 (suc n) k + total 2 (suc n) k + total 3 (suc n) k ≤ suc (total 1 n (suc k) + total 2 n (suc k) + total 3 n (suc k)))
  first-adds n k = at (eqb (x k) 1) (eqb (x k) 2) (eqb (x k) 3) refl refl refl
    where
      at : (a b c : Bool) → eqb (x k) 1 ≡ a → eqb (x k) 2 ≡ b → eqb (x k) 3 ≡ c → ((1 ≤ x k) × (x k ≤ 3)
          → total 1 (suc n) k + total 2 (suc n) k + total 3 (suc n) k ≡ suc (total 1 n (suc k) + total 2 n (suc k) + total 3 n (suc k)))
          × (total 1 (suc n) k + total 2 (suc n) k + total 3 (suc n) k ≤ suc (total 1 n (suc k) + total 2 n (suc k) + total 3 n (suc k)))
      at true b c e f g =
          let is = eqb-true (x k) 1 e in
          let t1 = total_here 1 n k is in
          let t2 = total-not 2 n k (λ q. omega arith) in
          let t3 = total-not 3 n k (λ q. omega arith) in
          (λ h. omega arith, omega arith)
      at false true c e f g =
          let is = eqb-true (x k) 2 f in
          let t1 = total-not 1 n k (λ q. omega arith) in
          let t2 = total_here 2 n k is in
          let t3 = total-not 3 n k (λ q. omega arith) in
          (λ h. omega arith, omega arith)
      at false false true e f g =
          let is = eqb-true (x k) 3 g in
          let t1 = total-not 1 n k (λ q. omega arith) in
          let t2 = total-not 2 n k (λ q. omega arith) in
          let t3 = total_here 3 n k is in
          (λ h. omega arith, omega arith)
      at false false false e f g =
          let n1 = eqb-false (x k) 1 e in
          let n2 = eqb-false (x k) 2 f in
          let n3 = eqb-false (x k) 3 g in
          let t1 = total-not 1 n k n1 in
          let t2 = total-not 2 n k n2 in
          let t3 = total-not 3 n k n3 in
          (λ h. absurd (none (x k) h.0 h.1 n1 n2 n3), omega arith)
        where
          none : (y : ℕ) → 1 ≤ y → y ≤ 3 → (y ≡ 1 → ⊥) → (y ≡ 2 → ⊥) → (y ≡ 3 → ⊥) → ⊥
          none zero l h a b c = omega arith
          none (suc zero) l h a b c = a refl
          none (suc (suc zero)) l h a b c = b refl
          none (suc (suc (suc zero))) l h a b c = c refl
          none (suc (suc (suc (suc y)))) l h a b c = omega arith

  -- no place is of two classes
  pub total-most : (n k : ℕ) → total 1 n k + total 2 n k + total 3 n k ≤ n
  unfolding places_where
  total-most zero k = omega arith
  total-most (suc n) k = omega (arith, (first-adds n k).1, total-most n (suc k))

  -- and where each is of one of them, all are counted
  pub total-all : (n k : ℕ) → ((i : ℕ) → k ≤ i → i < k + n → (1 ≤ x i) × (x i ≤ 3)) → total 1 n k + total 2 n k + total 3 n k ≡ n
  unfolding places_where
  total-all zero k h = omega arith
  total-all (suc n) k h =
      (first-adds n k).0 (h k (le_refl k) (omega arith)) ∙ ap suc (total-all n (suc k) (λ i l m. h i (omega arith) (omega arith)))

-- ---- the class at a place is one of three
pub class-named : (n : Counts) (i : ℕ) → (1 ≤ class_at n i) × (class_at n i ≤ 3)
unfolding class_at
class-named n i = at (ltb i n.levels) (ltb i (n.levels + n.compartments))
  where
    at : (s t : Bool) → (1 ≤ cond s 1 (cond t 2 3)) × (cond s 1 (cond t 2 3) ≤ 3)
    at true t = (omega arith, omega arith)
    at false true = (omega arith, omega arith)
    at false false = (omega arith, omega arith)

-- ---- the counts of records that are lent
module _ (edition : Edition) (profile : Profile) (components : List (List ℕ)) where
  abbrev n : Counts
  n = lent_counts edition profile components

  -- there are as many records at least
  pub counts-most : n.levels + n.compartments + n.groups ≤ length components
  unfolding class_total
  counts-most = total-most (λ i. class_of (record_in components i)) (length components) 0

  -- and no more, where each names a class
  pub counts_all : Classed components
      → length components ≡ n.levels + n.compartments + n.groups
  unfolding class_total
  counts_all h = sym (total-all (λ i. class_of (record_in components i)) (length components) 0 (λ i low high. h i (omega arith)))

  -- a record that keeps its rule has the class of its place
  class-kept : (i : ℕ) → rule_of Component n components i ≡ true → class_of (record_in components i) ≡ class_at n i
  class-kept i e = (component-means n components i e).kept.classed

  -- so where all keep their rules, all are counted
  pub kept-all : ((i : ℕ) → i < length components → rule_of Component n components i ≡ true)
      → length components ≡ n.levels + n.compartments + n.groups
  kept-all h = counts_all (λ i l. rw (class-kept i (h i l)) (class-named n i))

  -- and a record that breaks its rule stands no later than right after those that are counted: past them there would be a group too many
  too_many : n.levels + n.compartments + n.groups < first_bad (rule_of Component n components) (length components) 0 → ⊥
  unfolding class_total
  too_many late =
      let upto = bad-upto (rule_of Component n components) (length components) 0 in
      let first = n.levels + n.compartments in
      let more = where-run (λ i. eqb (class_of (record_in components i)) 3) (length components) 0 first (suc n.groups) (omega arith) (omega arith)
      (λ i low high.
      eq-eqb _ 3
      (class-kept i (good-before (rule_of Component n components) (length components) 0 i (omega arith) (omega arith)) ∙ class-group n i low)) in
      omega arith

  pub bad-soon : first_bad (rule_of Component n components) (length components) 0 ≤ n.levels + n.compartments + n.groups
  bad-soon = at (leb (first_bad (rule_of Component n components) (length components) 0) (n.levels + n.compartments + n.groups)) refl
    where
      at : (t : Bool) → leb (first_bad (rule_of Component n components) (length components) 0) (n.levels + n.compartments + n.groups) ≡ t
          → first_bad (rule_of Component n components) (length components) 0 ≤ n.levels + n.compartments + n.groups
      at true e = leb-true _ _ e
      at false e = absurd (too_many (leb-false _ _ e))
