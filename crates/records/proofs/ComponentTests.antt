-- The tests of a component in a run of one class, as the loop joins them, are the rules of its record and of the one before it; and where a
-- class ends. Assumes nothing.
use Rattle.std.proofs.Common.{◌≡◌, ℕ, zero, suc, ◌+◌, ◌-◌, ◌*◌, ◌/◌, ◌<◌, ◌≤◌, min, Bool, true, false, cond, ◌&&◌, ◌||◌, eqb, ltb, leb, List, length, drop, sym, refl, ap, ◌∙◌, ⊎_elim, le_refl, add-zero, add-suc, mul-zero, mul-suc, add-one, arith, ltb-true, le-ltb, lt-ltb, eq-eqb, ne_eqb, eqb-true, le-leb, leb-true}
use mathlib.Core.Bool.{and-true}
use native.Mathlib.Nat.{mul-div_right}
use lib.ListN.{get_or-eq_default}
use Rattle.fields.specs.Bytes.{byte_at, part, AreBytes, number2, number4, number8, all_zero}
use Rattle.fields.specs.Names.{name_rule}
use Rattle.fields.specs.Scan.{first_bad}
use Rattle.fields.proofs.Both.{parts, both, no-right, same_truth, below_or}
use Rattle.fields.proofs.Laws.{part-byte, part_length, part-short, part-part}
use Rattle.fields.proofs.UnusedBytes.{one-zero, four-zero, join-zero, rest_part}
use Rattle.header.specs.declared.edition.Edition.{Edition}
use Rattle.header.specs.declared.edition.Edition.TheVariants.{One, Two}
use Rattle.header.specs.declared.counts.Counts.{Counts}
use Rattle.header.specs.declared.layout.Kind.TheVariants.{Component}
use Rattle.header.specs.Layout.{class_first, class_at}
use Rattle.records.specs.Fields.{class_of, component_name_field, numeric_form, parent_of, no_parent, component_end}
use Rattle.records.specs.Rules.{run_record, class_start, parent_count, parent_rule, component_shape, numeric_after, run_before, run_rule}
use Rattle.records.specs.ComponentRuns.{parents_among, asked_of, lowest_form, parent_number, component_after, low_at, run_asked, ClassUpto}
use Rattle.records.proofs.ComponentRuns.{run_at}
use Rattle.records.proofs.MeaningComponents.{class-level, class-compartment, class-group, class-begun}
use Rattle.records.proofs.Parts.{bad-placed}

-- ---- where the class at place i ends
module _ (n : Counts) where
  groups-begin : class_start n (n.levels + n.compartments) ≡ n.levels + n.compartments
  unfolding class_first
  groups-begin = ap (class_first n) (class-group n (n.levels + n.compartments) (le_refl _))

  -- where there is no compartment, groups begin there
  compartments-begin : class_start n n.levels ≡ n.levels
  unfolding class_first
  compartments-begin =
      ⊎_elim (λ l. ap (class_first n) (class-compartment n n.levels (le_refl _) l))
      (λ l. let none : n.levels + n.compartments ≡ n.levels = omega arith in ap (class_first n) (class-group n n.levels l) ∙ none)
      (below_or n.levels (n.levels + n.compartments))

  module _ (i left : ℕ) (some : 0 < left) where
    pub upto-level : i < n.levels → (r : ℕ) → r ≡ min left (n.levels - i) → ClassUpto n i (i + left) (i + r)
    upto-level h r e =
        record {
          more = omega arith;
          upto = omega arith;
          same = λ j low high. class-level n j (omega arith) ∙ sym (class-level n i h);
          begins = λ l. let q : i + r ≡ n.levels = omega arith in q ∙ sym compartments-begin ∙ ap (class_start n) (sym q);
        }

    pub upto-compartment : n.levels ≤ i → i < n.levels + n.compartments → (r : ℕ) → r ≡ min left (n.compartments - (i - n.levels))
        → ClassUpto n i (i + left) (i + r)
    upto-compartment g h r e =
        record {
          more = omega arith;
          upto = omega arith;
          same = λ j low high. class-compartment n j (omega arith) (omega arith) ∙ sym (class-compartment n i g h);
          begins = λ l. let q : i + r ≡ n.levels + n.compartments = omega arith in q ∙ sym groups-begin ∙ ap (class_start n) (sym q);
        }

    pub upto-group : n.levels + n.compartments ≤ i → ClassUpto n i (i + left) (i + left)
    upto-group h =
        record {
          more = omega arith;
          upto = le_refl (i + left);
          same = λ j low high. class-group n j (omega arith) ∙ sym (class-group n i h);
          begins = λ l. absurd (omega arith);
        }

-- ---- the numeric form, by the lowest that the component may have
one-above : (a b : ℕ) → ltb a b ≡ leb (a + 1) b
one-above a b =
    same_truth _ _ (λ e. le-leb (a + 1) b (omega (arith, ltb-true a b e))) (λ e. lt-ltb a b (omega (arith, leb-true (a + 1) b e)))

numeric-low : (n : Counts) (i : ℕ) (previous rec : List ℕ) → numeric_after n i previous rec ≡ leb (lowest_form n i previous) (numeric_form rec)
unfolding lowest_form
numeric-low n i previous rec = at (eqb i (class_start n i))
  where
    at : (t : Bool) → (t || ltb (numeric_form previous) (numeric_form rec)) ≡ leb (cond t 0 (numeric_form previous + 1)) (numeric_form rec)
    at true = sym (le-leb 0 (numeric_form rec) (omega arith))
    at false = one-above (numeric_form previous) (numeric_form rec)

-- it is any at the first of its class, and one above the record before at the next component of a run
pub low_first : (n : Counts) (i : ℕ) (previous : List ℕ) → i ≡ class_start n i → 0 ≡ lowest_form n i previous
unfolding lowest_form
low_first n i previous e = rw (eq-eqb i (class_start n i) e)

pub low-next : (first : ℕ) (run : List ℕ) (j : ℕ) → numeric_form (run_record 40 run j) + 1 ≡ low_at first run (j + 1)
low-next first run j = rw (add-one j)

-- ---- the parent's place, below w, and the bytes after it as one number
parent_by : (w low rest none count : ℕ) (group : Bool) → none < w → low < w
    → (eqb (low + w * rest) none || ltb (low + w * rest) (cond group (min count w) 0)) ≡ ((eqb low none || group && ltb low count) && eqb rest 0)
parent_by w low zero none count group few small = rw (mul-zero, add-zero) (at group)
  where
    at : (t : Bool) → (eqb low none || ltb low (cond t (min count w) 0)) ≡ ((eqb low none || t && ltb low count) && true)
    at true =
        let same : ltb low (min count w) ≡ ltb low count =
        same_truth _ _ (λ e. lt-ltb low count (omega (arith, ltb-true low (min count w) e)))
        (λ e. lt-ltb low (min count w) (omega (arith, ltb-true low count e))) in
        rw (same, and-true)
    at false = rw (le-ltb low 0 (omega arith), and-true)
parent_by w low (suc rest) none count group few small =
    let high : w ≤ low + w * suc rest = omega (arith, mul-suc w rest) in
    let below : cond group (min count w) 0 ≤ w = at group in
    rw (
      ne_eqb (low + w * suc rest) none (λ e. omega arith),
      le-ltb (low + w * suc rest) (cond group (min count w) 0) (omega arith),
      ne_eqb (suc rest) 0 (λ e. omega arith),
    )
    (sym (no-right (eqb low none || group && ltb low count) false refl))
  where
    at : (t : Bool) → cond t (min count w) 0 ≤ w
    at true = omega arith
    at false = omega arith

module _ (rec : List ℕ) (bytes : AreBytes rec) (long : length rec ≡ 40) where
  two-few : (i : ℕ) → number2 rec i < 65536
  unfolding number2
  two-few i = omega (arith, bytes i, bytes (i + 1))

  number_is : parent_number rec ≡ number2 rec 34 + 65536 * number4 rec 36
  unfolding number8 number4
  number_is = omega (arith, two-few 32)

  one_byte : number2 rec 34 + 65536 * number4 rec 36 ≡ byte_at rec 34 + 256 * (byte_at rec 35 + 256 * number4 rec 36)
  unfolding number2
  one_byte = omega arith

  parent-same : (edition : Edition) (class count : ℕ)
      → (eqb (parent_number rec) (no_parent edition) || ltb (parent_number rec) (parents_among edition class count))
      ≡ (parent_rule edition class count (parent_of edition rec) && all_zero (drop (component_end edition) rec))
  unfolding parent_rule
  parent-same One class count =
      let rest : ℕ = byte_at rec 35 + 256 * number4 rec 36 in
      let is : parent_number rec ≡ byte_at rec 34 + 256 * rest = number_is ∙ one_byte in
      let zeros : eqb rest 0 ≡ all_zero (drop 35 rec) =
      rest-zeros ∙ rw (one-zero rec 35, four-zero rec 36) (sym (ap all_zero (rest_part rec 35 5 long) ∙ join-zero rec 35 1 4)) in
      rw (is, ← zeros) (parent_by 256 (byte_at rec 34) rest 255 count (eqb class 3) (omega arith) (bytes 34))
    where
      rest-zeros : eqb (byte_at rec 35 + 256 * number4 rec 36) 0 ≡ (eqb (byte_at rec 35) 0 && eqb (number4 rec 36) 0)
      rest-zeros =
          same_truth _ _
          (λ e. let z = eqb-true (byte_at rec 35 + 256 * number4 rec 36) 0 e in
          both _ _ (eq-eqb (byte_at rec 35) 0 (omega arith)) (eq-eqb (number4 rec 36) 0 (omega arith)))
          (λ e. let p = parts _ _ e in
          let x = eqb-true (byte_at rec 35) 0 p.0 in
          let y = eqb-true (number4 rec 36) 0 p.1 in
          eq-eqb (byte_at rec 35 + 256 * number4 rec 36) 0 (omega arith))
  parent-same Two class count =
      let zeros : eqb (number4 rec 36) 0 ≡ all_zero (drop 36 rec) = four-zero rec 36 ∙ sym (ap all_zero (rest_part rec 36 4 long)) in
      rw (number_is, ← zeros) (parent_by 65536 (number2 rec 34) (number4 rec 36) 65535 count (eqb class 3) (omega arith) (two-few 34))

  -- ---- one record whose numeric form is `low` or more
  pub component-by : (n : Counts) (class low : ℕ)
      → component_after (asked_of n class) low rec ≡ (component_shape n.edition class (parent_count n) rec && leb low (numeric_form rec))
  unfolding component_after component_shape
  component-by n class low =
      rw (parent-same n.edition class (parent_count n))
      (turned (eqb (class_of rec) class) (leb low (numeric_form rec)) (leb (numeric_form rec) 9999)
      (parent_rule n.edition class (parent_count n) (parent_of n.edition rec)) (all_zero (drop (component_end n.edition) rec))
      (name_rule (component_name_field rec)))
    where
      turned : (c l m p z s : Bool) → (c && l && m && (p && z) && s) ≡ (c && s && m && p && z && l)
      turned false l m p z s = refl
      turned true false m p z s = sym (no-right (s && m && p && z) false refl)
      turned true true false p z true = refl
      turned true true false p z false = refl
      turned true true true p z true = refl
      turned true true true p z false = no-right (p && z) false refl

-- ---- the records of a run from place j up to `to`, which are of one class
part_bytes : (s : List ℕ) (k n : ℕ) → AreBytes s → AreBytes (part s k n)
part_bytes s k n bytes i =
    ⊎_elim (λ l. omega (arith, part-byte s k n i l, bytes (k + i)))
    (λ l. omega (arith, get_or-eq_default (part s k n) 0 {n = i} (omega (arith, part-short s k n))))
    (below_or i n)

module _ (n : Counts) (k : ℕ) (previous run : List ℕ) (j to low : ℕ) (upto : j ≤ to) (inside : 40 * to ≤ length run) where
  abbrev class_run : List ℕ
  class_run = run_at run (40 * j) (to - j)

  class-long : length class_run ≡ 40 * (to - j)
  class-long = part_length run (40 * j) (40 * (to - j)) (omega arith)

  class-record : (q : ℕ) → q < to - j → run_record 40 class_run q ≡ run_record 40 run (j + q)
  class-record q h =
      let at : 40 * j + 40 * q ≡ 40 * (j + q) = omega arith in
      part-part run (40 * j) (40 * (to - j)) (40 * q) 40 (omega arith) ∙ ap (λ (p : ℕ). part run p 40) at

  module _ (same : (i : ℕ) → k + j ≤ i → i < k + to → class_at n i ≡ class_at n (k + j))
      (is : low ≡ lowest_form n (k + j) (run_before 40 previous run j)) where
    -- only the first of them may be the first of its class
    low-is : (q : ℕ) → q < to - j → low_at low class_run q ≡ lowest_form n (k + (j + q)) (run_before 40 previous run (j + q))
    unfolding lowest_form
    low-is zero h = rw add-zero is
    low-is (suc q) h =
        let i : ℕ = k + (j + suc q) in
        let start : class_start n i ≡ class_start n (k + j) = ap (class_first n) (same i (omega arith) (omega arith)) in
        let later : i ≡ class_start n i → ⊥ = λ e. omega (arith, start, class-begun n (k + j)) in
        rw (ne_eqb i (class_start n i) later, add-suc j q, class-record q (omega arith))

    rule-same : AreBytes run → (q : ℕ) → q < to - j
        → run_asked (asked_of n (class_at n (k + j))) low class_run q ≡ run_rule Component n k previous run (j + q)
    unfolding run_rule
    rule-same bytes q h =
        let i : ℕ = k + (j + q) in
        let rec = run_record 40 run (j + q) in
        let long : length rec ≡ 40 = part_length run (40 * (j + q)) 40 (omega arith) in
        rw (low-is q h, class-record q h, ← same i (omega arith) (omega arith))
        (component-by rec (part_bytes run (40 * (j + q)) 40 bytes) long n (class_at n i) _
        ∙ ap (λ (t : Bool). component_shape n.edition (class_at n i) (parent_count n) rec && t) (sym (numeric-low n i _ rec)))

    pub class-bad : AreBytes run
        → let part = run_at run (40 * j) (to - j) in
        j + first_bad (run_asked (asked_of n (class_at n (k + j))) low part) (length part / 40) 0
        ≡ first_bad (run_rule Component n k previous run) (to - j) j
    class-bad bytes =
        let count : length class_run / 40 ≡ to - j = ap (λ (l : ℕ). l / 40) class-long ∙ mul-div_right (to - j) (omega arith) in
        rw count (bad-placed _ _ (to - j) j (rule-same bytes))
