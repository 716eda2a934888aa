-- The filter of names: what marking a key does, what a name that is not marked tells, and how a search goes on class by class. Assumes nothing.
use Rattle.std.proofs.Common.{◌≡◌, ℕ, ◌+◌, ◌-◌, ◌*◌, ◌/◌, ◌<◌, ◌≤◌, Bool, true, false, eqb, List, length, get_or, take, drop, set, sym, refl, ap, ◌∙◌, ⊎_elim, true≢false, eq-or-lt_of_le, zero-add, arith, get_or-set_other, get_or-set_same, eqb-true}
use borrow.Author.Tests.{eqb-false}
use Rattle.fields.specs.Bytes.{part}
use Rattle.fields.specs.Names.{name_rule}
use Rattle.fields.specs.Scan.{first_bad}
use Rattle.fields.proofs.Laws.{part_length, part-part}
use Rattle.fields.proofs.Meaning.{name-holds}
use Rattle.fields.proofs.Scan.{bad-same-on}
use Rattle.sets.specs.Sets.{union, within}
use Rattle.sets.proofs.Within.{within-trans, within-union-left, within-union-right}
use Rattle.header.specs.declared.edition.Edition.{Edition}
use Rattle.header.specs.declared.counts.Counts.{Counts}
use Rattle.header.specs.declared.layout.Kind.TheVariants.{Component}
use Rattle.header.specs.Layout.{class_first, class_at}
use Rattle.records.specs.Fields.{component_name_field}
use Rattle.records.specs.ComponentRuns.{ClassUpto}
use Rattle.records.specs.Rules.{record_in, run_record, run_records, class_start, component_shape, new_name_from, new_name_rule, fresh_rule}
use Rattle.records.specs.Fresh.{name_key, word_of_key, bits_of_key, marked, MarkedToo, NamesKept, MarkedFrom, Marked, HoldsFrom}
use Rattle.records.proofs.MeaningComponents.{class-between, component-shape-means, new-name-from}
use Rattle.records.proofs.ComponentRuns.{run_at, upto-taken}
use Rattle.records.proofs.NameWords.{same_key}
use Rattle.records.proofs.Parts.{run-record}

-- ---- the bits of a key are set in its word
module _ (filter : List ℕ) (key : ℕ) (room : word_of_key key < length filter) where
  abbrev pub with_mark : List ℕ
  with_mark = set filter (word_of_key key) (union (get_or filter (word_of_key key) 0) (bits_of_key key))

  mark-here : marked with_mark key ≡ true
  unfolding marked
  mark-here = rw (get_or-set_same filter (word_of_key key) (union (get_or filter (word_of_key key) 0) (bits_of_key key)) 0 room)
      (within-union-right (get_or filter (word_of_key key) 0) (bits_of_key key))

  mark-still : (other : ℕ) → marked filter other ≡ true → marked with_mark other ≡ true
  unfolding marked
  mark-still other e = at (eqb (word_of_key other) (word_of_key key)) refl
    where
      at : (t : Bool) → eqb (word_of_key other) (word_of_key key) ≡ t → within (bits_of_key other) (get_or with_mark (word_of_key other) 0) ≡ true
      at true q =
          let same : word_of_key other ≡ word_of_key key = eqb-true _ _ q in
          rw (same, get_or-set_same filter (word_of_key key) (union (get_or filter (word_of_key key) 0) (bits_of_key key)) 0 room)
          (within-trans (bits_of_key other) (get_or filter (word_of_key key) 0) _ (rw same at e)
          (within-union-left (get_or filter (word_of_key key) 0) (bits_of_key key)))
      at false q =
          let added : ℕ = union (get_or filter (word_of_key key) 0) (bits_of_key key) in
          rw (get_or-set_other filter (word_of_key key) (word_of_key other) added 0 (eqb-false _ _ q)) e

  pub mark-too : MarkedToo key filter with_mark
  mark-too = record { here = mark-here; still = mark-still }

-- a component that keeps its rule has a name that keeps the rule of its field
pub shape-named : (edition : Edition) (class count : ℕ) (rec : List ℕ) → component_shape edition class count rec ≡ true
    → name_rule (component_name_field rec) ≡ true
shape-named edition class count rec e = name-holds _ (component-shape-means edition class count rec e).named

-- ---- the components of a class up to place i are marked
-- before the first of all there is none
pub marked-first : (n : Counts) (records : List (List ℕ)) (filter : List ℕ) → Marked n records 0 filter
marked-first n records filter = record { each = λ j low high. absurd (omega arith) }

module _ (records : List (List ℕ)) (start i : ℕ) (filter : List ℕ) where
  pub marked_next : (after : List ℕ) → MarkedFrom records start i filter → MarkedToo (name_key (record_in records i)) filter after
      → MarkedFrom records start (i + 1) after
  marked_next after m too = record { each = each }
    where
      each : (j : ℕ) → start ≤ j → j < i + 1 → marked after (name_key (record_in records j)) ≡ true
      each j low high =
          let upto : j ≤ i = omega arith in
          ⊎_elim (λ e. rw e too.here) (λ l. too.still _ (m.each j low l)) (eq-or-lt_of_le upto)

  -- a name that is not marked is new
  pub new-unmarked : start ≤ i → NamesKept records (i + 1) → MarkedFrom records start i filter
      → marked filter (name_key (record_in records i)) ≡ false → new_name_from start records i ≡ true
  new-unmarked begun kept m e =
      new-name-from records start i begun
      (λ j low high named. let key = same_key (record_in records j) (record_in records i) (kept.each j (omega arith)) (kept.each i (omega arith)) named in
      true≢false (sym (m.each j low high) ∙ ap (marked filter) key ∙ e))

-- ---- the places from i up to r, which are of one class that begins at `start`
module _ (n : Counts) (records : List (List ℕ)) (i last r : ℕ) (class : ClassUpto n i last r)
    (start : ℕ) (begun : start ≡ class_start n i) where
  -- what is marked for their class is marked for the class at r, be it the same or the next
  pub class-marked : (filter : List ℕ) → MarkedFrom records start r filter → Marked n records r filter
  class-marked filter m = record { each = each }
    where
      each : (j : ℕ) → class_start n r ≤ j → j < r → marked filter (name_key (record_in records j)) ≡ true
      each j low high =
          let here : class_at n (r - 1) ≡ class_at n r = class-between n (r - 1) r (omega arith) (omega arith) in
          let before : class_at n (r - 1) ≡ class_at n i = class.same (r - 1) (omega (arith, class.more)) (omega (arith, class.more)) in
          let same : class_start n i ≡ class_start n r = ap (class_first n) (sym before ∙ here) in
          m.each j (omega arith) high

  -- their names are new by where that class begins
  pub class-fresh : first_bad (new_name_from start records) (r - i) i ≡ first_bad (fresh_rule Component n records) (r - i) i
  unfolding new_name_rule
  class-fresh =
      bad-same-on (new_name_from start records) (fresh_rule Component n records) (r - i) i
      (λ j low high. ap (λ (s : ℕ). new_name_from s records j) (begun ∙ sym (ap (class_first n) (class.same j low (omega arith)))))

-- ---- what a run holds
-- a part of it
module _ {records : List (List ℕ)} {from to : ℕ} {run : List ℕ} (holds : HoldsFrom records from to run) (i end : ℕ) (low : from ≤ i) (more : i ≤ end)
    (high : end ≤ to) where
  pub part_room : 40 * (end - from) ≤ length run
  part_room = omega (arith, holds.long)

  pub part-holds : HoldsFrom records i end (take (40 * (end - from) - 40 * (i - from)) (drop (40 * (i - from)) run))
  part-holds = rw (upto-taken run (i - from) (end - from)) (record { long = long; same = same })
    where
      long : 40 * (end - i) ≤ length (run_at run (40 * (i - from)) (end - from - (i - from)))
      long = omega (arith, part_length run (40 * (i - from)) (40 * (end - from - (i - from))) (omega (arith, part_room)))

      same : (q : ℕ) → q < end - i → run_record 40 (run_at run (40 * (i - from)) (end - from - (i - from))) q ≡ record_in records (i + q)
      same q h =
          let at : 40 * (i - from) + 40 * q ≡ 40 * (i - from + q) = omega arith in
          let place : from + (i - from + q) ≡ i + q = omega arith in
          part-part run (40 * (i - from)) (40 * (end - from - (i - from))) (40 * q) 40 (omega arith) ∙ ap (λ (k : ℕ). part run k 40) at
          ∙ holds.same (i - from + q) (omega arith) ∙ ap (record_in records) place

-- all components of a run that no image holds
pub run_holds : (run : List ℕ) (to : ℕ) → to ≤ length run / 40 → HoldsFrom (run_records 40 run) 0 to run
run_holds run to within =
    record {
      long = omega arith;
      same = λ q l. sym (run-record 40 run q (omega arith)) ∙ ap (record_in (run_records 40 run)) (sym (zero-add q));
    }
