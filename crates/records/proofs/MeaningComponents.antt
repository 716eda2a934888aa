-- What the rules of component records mean, both ways: a rule holds exactly if what it says holds. Assumes nothing.
use Rattle.std.proofs.Common.{◌≡◌, ℕ, suc, ◌+◌, ◌-◌, ◌<◌, ◌≤◌, Bool, true, false, cond, not, eqb, ltb, ◌⊎◌, List, length, sym, refl, inl, inr, ⊎_elim, lt_trans, arith, ltb-false, ltb-true, le-ltb, lt-ltb, eq-eqb, eqb-true, le-leb, leb-true}
use borrow.Author.Tests.{not-true}
use Rattle.fields.specs.Bytes.{byte_at}
use Rattle.fields.specs.Names.{same_bytes}
use Rattle.fields.proofs.Both.{parts, either, or_left, or_right}
use Rattle.fields.proofs.Meaning.{zero_rest, rest-zero, NameKept, name-means, name-holds, differ-means, same-means}
use Rattle.fields.proofs.Scan.{everywhere-at, all-good}
use Rattle.header.specs.declared.edition.Edition.{Edition}
use Rattle.header.specs.declared.counts.Counts.{Counts}
use Rattle.header.specs.declared.layout.Kind.TheVariants.{Component}
use Rattle.header.specs.Layout.{class_first, class_at}
use Rattle.records.specs.Fields.{class_of, component_name_field, component_name, numeric_form, parent_of, no_parent, component_end}
use Rattle.records.specs.Rules.{record_in, class_start, parent_count, parent_rule, component_shape, numeric_after, other_name, new_name_from, new_name_rule, rule_of}
use Rattle.records.proofs.Rising.{rise, apart}

-- ---- the class at a place: levels, then compartments, then groups
module _ (n : Counts) (i : ℕ) where
  pub class-level : i < n.levels → class_at n i ≡ 1
  unfolding class_at
  class-level h = rw (lt-ltb i n.levels h)

  pub class-compartment : n.levels ≤ i → i < n.levels + n.compartments → class_at n i ≡ 2
  unfolding class_at
  class-compartment g h = rw (le-ltb i n.levels g, lt-ltb i (n.levels + n.compartments) h)

  pub class-group : n.levels + n.compartments ≤ i → class_at n i ≡ 3
  unfolding class_at
  class-group h =
      let g : n.levels ≤ i = omega arith in
      rw (le-ltb i n.levels g, le-ltb i (n.levels + n.compartments) h)

  -- a class begins no later than its components
  pub class-begun : class_start n i ≤ i
  unfolding class_at class_first
  class-begun = at (ltb i n.levels) refl (ltb i (n.levels + n.compartments)) refl
    where
      at : (s : Bool) → ltb i n.levels ≡ s → (t : Bool) → ltb i (n.levels + n.compartments) ≡ t
          → class_first n (cond s 1 (cond t 2 3)) ≤ i
      at true e t d = omega arith
      at false e true d = ltb-false i n.levels e
      at false e false d = ltb-false i (n.levels + n.compartments) d

-- of two components of one class, the earlier stands from the class's start on
pub class-from : (n : Counts) (j k : ℕ) → class_at n j ≡ class_at n k → class_start n k ≤ j
class-from n j k e = rw (← e) (class-begun n j)

-- the components from a class's start up to one of the class are of the class
pub class-between : (n : Counts) (j k : ℕ) → class_start n k ≤ j → j ≤ k → class_at n j ≡ class_at n k
unfolding class_at class_first
class-between n j k =
    at (ltb j n.levels) refl (ltb j (n.levels + n.compartments)) refl
    (ltb k n.levels) refl (ltb k (n.levels + n.compartments)) refl
  where
    at : (s : Bool) → ltb j n.levels ≡ s → (t : Bool) → ltb j (n.levels + n.compartments) ≡ t
        → (u : Bool) → ltb k n.levels ≡ u → (v : Bool) → ltb k (n.levels + n.compartments) ≡ v
        → class_first n (cond u 1 (cond v 2 3)) ≤ j → j ≤ k
        → ◌≡◌ {A = ℕ} (cond s 1 (cond t 2 3)) (cond u 1 (cond v 2 3))
    at true e t d true f v g low high = refl
    at true e t d false f true g low high = absurd (omega (arith, ltb-true j n.levels e))
    at true e t d false f false g low high = absurd (omega (arith, ltb-true j n.levels e))
    at false e t d true f v g low high = absurd (omega (arith, ltb-false j n.levels e, ltb-true k n.levels f))
    at false e true d false f true g low high = refl
    at false e true d false f false g low high = absurd (omega (arith, ltb-true j (n.levels + n.compartments) d))
    at false e false d false f true g low high =
        absurd (omega (arith, ltb-false j (n.levels + n.compartments) d, ltb-true k (n.levels + n.compartments) g))
    at false e false d false f false g low high = refl

-- ---- a record by itself
-- a level or a compartment has no parent; a group has none, or a group that exists
abbrev pub ParentKept : Edition → ℕ → ℕ → ℕ → Type 0
ParentKept edition class count parent = (parent ≡ no_parent edition) ⊎ ((class ≡ 3) × (parent < count))

pub parent-means : (edition : Edition) (class count parent : ℕ) → parent_rule edition class count parent ≡ true → ParentKept edition class count parent
unfolding parent_rule
parent-means edition class count parent e =
    ⊎_elim (λ p. inl (eqb-true parent (no_parent edition) p))
    (λ p. let q = parts _ _ p in inr (eqb-true class 3 q.0, ltb-true parent count q.1))
    (either _ _ e)

pub parent-holds : (edition : Edition) (class count parent : ℕ) → ParentKept edition class count parent → parent_rule edition class count parent ≡ true
unfolding parent_rule
parent-holds edition class count parent (inl e) = or_left _ _ (eq-eqb parent (no_parent edition) e)
parent-holds edition class count parent (inr (e, h)) = or_right (eqb parent (no_parent edition)) _ (rw (eq-eqb class 3 e, lt-ltb parent count h))

pub record ComponentKept (edition : Edition) (class count : ℕ) (rec : List ℕ) : Type 0 where
  pub classed : class_of rec ≡ class
  pub named : NameKept (component_name_field rec)
  pub numeric_limit : numeric_form rec ≤ 9999
  pub parent : ParentKept edition class count (parent_of edition rec)
  pub unused : (i : ℕ) → component_end edition ≤ i → byte_at rec i ≡ 0

module _ (edition : Edition) (class count : ℕ) (rec : List ℕ) where
  pub component-shape-means : component_shape edition class count rec ≡ true → ComponentKept edition class count rec
  unfolding component_shape
  component-shape-means e =
      let q4 = parts _ _ e in
      let q3 = parts _ _ q4.0 in
      let q2 = parts _ _ q3.0 in
      let q1 = parts _ _ q2.0 in
      record {
        classed = eqb-true _ _ q1.0;
        named = name-means _ q1.1;
        numeric_limit = leb-true _ _ q2.1;
        parent = parent-means edition class count (parent_of edition rec) q3.1;
        unused = zero_rest rec (component_end edition) q4.1;
      }

  pub component-shape-holds : ComponentKept edition class count rec → component_shape edition class count rec ≡ true
  unfolding component_shape
  component-shape-holds k =
      rw (
        eq-eqb _ _ k.classed,
        name-holds _ k.named,
        le-leb _ _ k.numeric_limit,
        parent-holds edition class count (parent_of edition rec) k.parent,
        rest-zero rec (component_end edition) k.unused,
      )

  -- so a level or a compartment has none
  pub no-parent : ComponentKept edition class count rec → (class ≡ 3 → ⊥) → parent_of edition rec ≡ no_parent edition
  no-parent k other = ⊎_elim (λ e. e) (λ p. absurd (other p.0)) k.parent

-- ---- among the others
-- no component from place `start` on has the name of the one at i
pub new-name-from : (records : List (List ℕ)) (start i : ℕ) → start ≤ i
    → ((j : ℕ) → start ≤ j → j < i → component_name (record_in records j) ≡ component_name (record_in records i) → ⊥)
    → new_name_from start records i ≡ true
unfolding other_name
new-name-from records start i begun f =
    let name : List ℕ = component_name (record_in records i) in
    eq-eqb _ _ (all-good (λ j. not (same_bytes (component_name (record_in records j)) name)) (i - start) start
    (λ j low high. differs (component_name (record_in records j)) name (f j low (omega arith))))
  where
    differs : (a b : List ℕ) → (a ≡ b → ⊥) → not (same_bytes a b) ≡ true
    differs a b g = at (same_bytes a b) refl
      where
        at : (t : Bool) → same_bytes a b ≡ t → not t ≡ true
        at true e = absurd (g (same-means a b e))
        at false e = refl

module _ (n : Counts) (records : List (List ℕ)) (i : ℕ) where
  -- the first of its class, or above the one before it
  abbrev pub NumericRises : Type 0
  NumericRises = (i ≡ class_start n i) ⊎ (numeric_form (record_in records (i - 1)) < numeric_form (record_in records i))

  pub numeric-means : numeric_after n i (record_in records (i - 1)) (record_in records i) ≡ true → NumericRises
  numeric-means e = ⊎_elim (λ p. inl (eqb-true _ _ p)) (λ p. inr (ltb-true _ _ p)) (either _ _ e)

  pub numeric-holds : NumericRises → numeric_after n i (record_in records (i - 1)) (record_in records i) ≡ true
  numeric-holds = ⊎_elim (λ p. or_left _ _ (eq-eqb _ _ p)) (λ p. or_right (eqb i (class_start n i)) _ (lt-ltb _ _ p))

  -- no earlier component of the class has its name
  abbrev pub NameNew : Type 0
  NameNew = (j : ℕ) → class_start n i ≤ j → j < i → component_name (record_in records j) ≡ component_name (record_in records i) → ⊥

  pub new-name-means : new_name_rule n records i ≡ true → NameNew
  unfolding new_name_rule other_name
  new-name-means e j low high =
      let name : List ℕ = component_name (record_in records i) in
      differ-means (component_name (record_in records j)) name
      (not-true (same_bytes (component_name (record_in records j)) name)
      (everywhere-at (λ j. not (same_bytes (component_name (record_in records j)) name)) (i - class_start n i) (class_start n i) j e low (omega arith)))

  pub new-name-holds : NameNew → new_name_rule n records i ≡ true
  unfolding new_name_rule
  new-name-holds f = new-name-from records (class_start n i) i (class-begun n i) f

  pub record ComponentAmong : Type 0 where
    pub kept : ComponentKept n.edition (class_at n i) (parent_count n) (record_in records i)
    pub rises : NumericRises
    pub name_new : NameNew

  pub component-means : rule_of Component n records i ≡ true → ComponentAmong
  unfolding rule_of
  component-means e =
      let q2 = parts _ _ e in
      let q1 = parts _ _ q2.0 in
      record {
        kept = component-shape-means n.edition (class_at n i) (parent_count n) (record_in records i) q1.0;
        rises = numeric-means q1.1;
        name_new = new-name-means q2.1;
      }

  pub component-holds : ComponentAmong → rule_of Component n records i ≡ true
  unfolding rule_of
  component-holds a =
      rw (component-shape-holds n.edition (class_at n i) (parent_count n) (record_in records i) a.kept, numeric-holds a.rises, new-name-holds a.name_new)

-- ---- all of them
module _ (n : Counts) (records : List (List ℕ)) where
  -- inside a class the numeric form rises strictly
  pub numeric-rise : ((i : ℕ) → i < length records → NumericRises n records i)
      → (j k : ℕ) → class_at n j ≡ class_at n k → j < k → k < length records
      → numeric_form (record_in records j) < numeric_form (record_in records k)
  numeric-rise rises j k same less high =
      rise (λ a b. numeric_form (record_in records a) < numeric_form (record_in records b)) (λ a b c. lt_trans)
      (class_start n k) (suc k) step j k (class-from n j k same) less (omega arith)
    where
      step : (m : ℕ) → class_start n k < m → m < suc k → numeric_form (record_in records (m - 1)) < numeric_form (record_in records m)
      step m low upto =
          let e : class_at n m ≡ class_at n k = class-between n m k (omega arith) (omega arith) in
          let s : class_start n m ≡ class_start n k = rw e in
          ⊎_elim (λ q. absurd (omega arith)) (λ l. l) (rises m (omega arith))

  -- class and name tell components apart
  pub component-unique : ((i : ℕ) → i < length records → NameNew n records i)
      → (j k : ℕ) → j < length records → k < length records → class_at n j ≡ class_at n k
      → component_name (record_in records j) ≡ component_name (record_in records k) → j ≡ k
  component-unique new j k hj hk same named =
      apart (λ a b. (class_at n a ≡ class_at n b) × (component_name (record_in records a) ≡ component_name (record_in records b)))
      (λ a b p. (sym p.0, sym p.1)) (length records)
      (λ a b less high p. new b high a (class-from n a b p.0) less p.1)
      j k hj hk (same, named)
