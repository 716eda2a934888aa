-- The tests of a label in a run, as the loop joins them, and the highest tag are the rules of its record and of the one before it; and of
-- labels whose tags rise those above the highest are the last ones. Assumes nothing.
use Rattle.std.proofs.Common.{◌≡◌, ℕ, zero, suc, ◌+◌, ◌-◌, ◌*◌, ◌/◌, ◌%◌, ◌<◌, ◌≤◌, Bool, true, false, cond, ◌&&◌, eqb, ltb, leb, List, length, sym, refl, ap, ◌∙◌, ⊎_elim, lt_trans, add-zero, add-suc, suc-add, eq-or-lt_of_le, mul-le-mul_left, zero-add, add-one, arith, ltb-true, lt-ltb, ne_eqb, le-leb}
use mathlib.Core.Bool.{and-true}
use native.Mathlib.Nat.{sub-zero, div-add-mod}
use Rattle.fields.specs.Bytes.{part, all_zero}
use Rattle.fields.specs.Scan.{first_bad}
use Rattle.fields.proofs.Both.{parts, no-right}
use Rattle.fields.proofs.Scan.{bad-upto, good-before, all-good, bad-same, bad-both}
use Rattle.fields.proofs.UnusedBytes.{low_byte}
use Rattle.sets.specs.Sets.{within, all_below}
use Rattle.header.specs.declared.counts.Counts.{Counts}
use Rattle.header.specs.declared.layout.Kind.TheVariants.{Label}
use Rattle.header.specs.Layout.{record_size}
use Rattle.records.specs.Fields.{tag_of, label_level, label_compartments, label_groups}
use Rattle.records.specs.LabelRuns.{run_tag, tag_before, label_after, run_after, tag_limited, TagsRise}
use Rattle.records.specs.Rules.{run_record, label_shape, after_rule, run_before, run_rule, first_bad_of_run}
use Rattle.records.proofs.MeaningLabels.{label-shape-means}
use Rattle.records.proofs.Rising.{rise}
use Rattle.records.proofs.Running.{run-rule}

-- ---- one record, after one of the tag `before`
last-first : (l a b c d : Bool) → (a && b && c && d && l) ≡ (l && a && b && c && d)
last-first true a b c d = and-true (a && b && c && d)
last-first false a b c d = no-right (a && b && c && d) false refl

module _ (n : Counts) (rec : List ℕ) (before : ℕ) where
  abbrev asked : Bool
  asked = label_after n before rec && leb (tag_of rec) 99999999

  pub label-by : n.levels ≤ 256 → asked ≡ (label_shape n rec && ltb before (tag_of rec))
  unfolding label_shape label_after
  label-by few = at (ltb before (tag_of rec)) refl
    where
      at : (t : Bool) → ltb before (tag_of rec) ≡ t → asked ≡ (label_shape n rec && ltb before (tag_of rec))
      at true e =
          let l : before < tag_of rec = ltb-true before (tag_of rec) e in
          let some : leb 1 (tag_of rec) ≡ true = le-leb 1 (tag_of rec) (omega arith) in
          rw (e, some, low_byte rec 4 n.levels few, and-true)
          (last-first (leb (tag_of rec) 99999999) (ltb (label_level rec) n.levels) (all_zero (part rec 5 3))
          (within (label_compartments rec) (all_below n.compartments)) (within (label_groups n.edition rec) (all_below n.groups)))
      at false e = rw e (sym (no-right (label_shape n rec) false refl))

  pub label-rises : label_after n before rec ≡ true → before < tag_of rec
  unfolding label_after
  label-rises e =
      let q2 = parts _ _ e in
      let q1 = parts _ _ q2.0 in
      ltb-true _ _ (parts _ _ q1.0).0

-- a tag higher than that of the record before, 0 before the first label of all, is what is asked of it and that record
tag-rule : (n : Counts) (i : ℕ) (previous rec : List ℕ)
    → (label_shape n rec && ltb (cond (eqb i 0) 0 (tag_of previous)) (tag_of rec)) ≡ after_rule Label n i previous rec
tag-rule n i previous rec = at (label_shape n rec) refl (eqb i 0) refl
  where
    at : (s : Bool) → label_shape n rec ≡ s → (t : Bool) → eqb i 0 ≡ t
        → (label_shape n rec && ltb (cond (eqb i 0) 0 (tag_of previous)) (tag_of rec)) ≡ after_rule Label n i previous rec
    at false e t d = rw e
    at true e true d = rw (e, d, lt-ltb 0 (tag_of rec) (label-shape-means n rec e).tag_some)
    at true e false d = rw (e, d)

-- ---- a run
pub tag-next : (size first : ℕ) (run : List ℕ) (j : ℕ) → run_tag size run j ≡ tag_before size first run (j + 1)
tag-next size first run j = rw (add-one j)

tag-before : (size k : ℕ) (previous run : List ℕ) (j : ℕ)
    → tag_before size (cond (eqb k 0) 0 (tag_of previous)) run j ≡ cond (eqb (k + j) 0) 0 (tag_of (run_before size previous run j))
tag-before size k previous run zero = let e : k ≡ k + 0 = omega arith in ap (λ (i : ℕ). cond (eqb i 0) 0 (tag_of previous)) e
tag-before size k previous run (suc j) = rw (ne_eqb (k + suc j) 0 (λ e. omega arith))

-- the first that breaks a rule: in two searches
module _ (n : Counts) (few : n.levels ≤ 256) (size k : ℕ) (is : size ≡ record_size n.edition Label) (previous run : List ℕ) where
  abbrev first : ℕ
  first = cond (eqb k 0) 0 (tag_of previous)

  both-asked : (j : ℕ) → run_rule Label n k previous run j ≡ (run_after n size first run j && tag_limited size run j)
  both-asked j =
      let rec = run_record size run j in
      sym (run-rule Label n size k j previous run _ _ is refl refl) ∙ sym (tag-rule n (k + j) (run_before size previous run j) rec)
      ∙ ap (λ (t : ℕ). label_shape n rec && ltb t (tag_of rec)) (sym (tag-before size k previous run j))
      ∙ sym (label-by n rec (tag_before size first run j) few)

  pub searched : first_bad (tag_limited size run) (first_bad (run_after n size first run) (length run / size) 0) 0 ≡ first_bad_of_run Label n k previous run
  searched =
      let f = run_after n size first run in
      let g = tag_limited size run in
      let count = length run / size in
      ap (λ (m : ℕ). first_bad g m 0) (sym (sub-zero (first_bad f count 0))) ∙ sym (bad-both f g count 0)
      ∙ sym (bad-same (run_rule Label n k previous run) (λ j. f j && g j) both-asked count 0)
      ∙ ap (λ (s : ℕ). first_bad (run_rule Label n k previous run) (length run / s) 0) is

-- the place that the first search finds is in the run, and tags rise up to there
pub passed-inside : (n : Counts) (size first : ℕ) (run : List ℕ) → length run % size ≡ 0
    → size * first_bad (run_after n size first run) (length run / size) 0 ≤ length run
passed-inside n size first run whole =
    let count : ℕ = length run / size in
    let upto : first_bad (run_after n size first run) count 0 ≤ count = omega (arith, bad-upto (run_after n size first run) count 0) in
    let m : size * first_bad (run_after n size first run) count 0 ≤ size * count = mul-le-mul_left size upto in
    omega (arith, div-add-mod (length run) size)

pub passed-rise : (n : Counts) (size first : ℕ) (run : List ℕ) (count : ℕ) → TagsRise size run (first_bad (run_after n size first run) count 0)
passed-rise n size first run count zero low high = absurd (omega arith)
passed-rise n size first run count (suc j) low high =
    let back : suc j - 1 ≡ j = omega arith in
    rw back (label-rises n _ _ (good-before (run_after n size first run) count 0 (suc j) (omega arith) high))

-- ---- labels whose tags rise, the last first
bad_last : (rule : ℕ → Bool) (n k : ℕ) → rule (k + n) ≡ false → first_bad rule (suc n) k ≡ first_bad rule n k
unfolding first_bad
bad_last rule zero k e = rw (ap rule (sym (add-zero k)) ∙ e)
bad_last rule (suc n) k e = ap (λ (w : ℕ). cond (rule k) w k) (bad_last rule n (suc k) (ap rule (suc-add k n ∙ sym (add-suc k n)) ∙ e))

-- where the last is above the highest, it may be left out
pub last-above : (rule : ℕ → Bool) (j : ℕ) → 0 < j → rule (j - 1) ≡ false → first_bad rule (j - 1) 0 ≡ first_bad rule j 0
last-above rule j some e =
    let whole : suc (j - 1) ≡ j = omega arith in
    sym (bad_last rule (j - 1) 0 (ap rule (zero-add (j - 1)) ∙ e)) ∙ ap (λ (m : ℕ). first_bad rule m 0) whole

-- where it is not, none of them is
pub last-limited : (size : ℕ) (run : List ℕ) (n j : ℕ) → TagsRise size run n → 0 < j → j ≤ n → run_tag size run (j - 1) ≤ 99999999
    → j ≡ first_bad (tag_limited size run) j 0
last-limited size run n j rises some upto last = sym (all-good (tag_limited size run) j 0 each ∙ zero-add j)
  where
    each : (i : ℕ) → 0 ≤ i → i < 0 + j → tag_limited size run i ≡ true
    each i low high =
        let h : i ≤ j - 1 = omega arith in
        ⊎_elim (λ q. le-leb (run_tag size run i) 99999999 (rw q last))
        (λ l. let less : run_tag size run i < run_tag size run (j - 1) =
        rise (λ a b. run_tag size run a < run_tag size run b) (λ a b c p q. lt_trans p q) 0 n rises i (j - 1) low l (omega arith) in
        le-leb (run_tag size run i) 99999999 (omega arith))
        (eq-or-lt_of_le h)
