-- Runs and full blocks of labels that code passes over: gathering what the labels of a run name, that a run whose labels name only what
-- exists breaks no rule, and what is asked of a block. Assumes nothing.
use Rattle.std.proofs.Common.{◌≡◌, ℕ, ◌+◌, ◌-◌, ◌*◌, ◌/◌, ◌<◌, ◌≤◌, Bool, true, false, cond, ◌||◌, eqb, List, length, sym, refl, ap, ◌∙◌, subst, ⊎_elim, true≢false, eq-or-lt_of_le, zero-add, arith, lt-ltb}
use native.Mathlib.Nat.{mul-div_right}
use Rattle.fields.specs.Bytes.{AreBytes, part, number2, number4, all_zero}
use Rattle.fields.specs.Scan.{first_bad}
use Rattle.fields.proofs.Both.{both}
use Rattle.fields.proofs.Laws.{part_length}
use Rattle.fields.proofs.Scan.{all-good}
use Rattle.sets.specs.Sets.{union, within, all_below}
use Rattle.sets.proofs.Within.{within-trans, within-union-left, within-union-right}
use Rattle.header.specs.declared.edition.Edition.{Edition}
use Rattle.header.specs.declared.counts.Counts.{Counts}
use Rattle.header.specs.declared.layout.Shape.{Shape}
use Rattle.header.specs.declared.layout.Kind.TheVariants.{Label}
use Rattle.header.specs.Layout.{record_size, Roomy}
use Rattle.records.specs.Fields.{tag_of, label_compartments, label_groups}
use Rattle.records.specs.LabelBlocks.{LabelIn, GatheredOf, full_run, full_end, FineBlock}
use Rattle.records.specs.LabelRuns.{run_tag, tag_before, label_after, run_after, tag_limited, TagsRise}
use Rattle.records.specs.Rules.{run_record, first_bad_of_run}
use Rattle.records.proofs.BlockRuns.{size-some}
use Rattle.records.proofs.LabelTests.{tag-next, searched, passed-rise, last-limited}

-- ---- gathering
-- neither of two joined tests
pub neither : (a b : Bool) → (a || b) ≡ false → (a ≡ false) × (b ≡ false)
neither true b e = absurd (true≢false e)
neither false b e = (refl, e)

module _ {edition : Edition} {size : ℕ} {run : List ℕ} {before levels : ℕ} where
  -- one label more
  pub gather-turn : {j last c g : ℕ} → GatheredOf edition size run before levels j last c g
      → (rec : List ℕ) → rec ≡ run_record size run j → last < tag_of rec → number4 rec 4 < levels
      → (tag c' g' : ℕ) → tag ≡ tag_of rec → c' ≡ union c (label_compartments rec) → g' ≡ union g (label_groups edition rec)
      → GatheredOf edition size run before levels (j + 1) tag c' g'
  gather-turn {j} {last} {c} {g} w rec is above low tag c' g' t p q =
      record { each = λ i h. let upto : i ≤ j = omega arith in ⊎_elim (λ e. rw e here) (λ l. earlier i l) (eq-or-lt_of_le upto); end = ended }
    where
      here : LabelIn edition (tag_before size before run j) levels c' g' (run_record size run j)
      here =
          rw (← is, ← w.end, p, q)
          (record {
            rises = above;
            level = low;
            named = within-union-right c (label_compartments rec);
            grouped = within-union-right g (label_groups edition rec);
          })

      earlier : (i : ℕ) → i < j → LabelIn edition (tag_before size before run i) levels c' g' (run_record size run i)
      earlier i l =
          let k = w.each i l in
          record {
            rises = k.rises;
            level = k.level;
            named = rw p (within-trans _ _ _ k.named (within-union-left c (label_compartments rec)));
            grouped = rw q (within-trans _ _ _ k.grouped (within-union-left g (label_groups edition rec)));
          }

      ended : tag ≡ tag_before size before run (j + 1)
      ended = t ∙ ap tag_of is ∙ tag-next size before run j

-- ---- a run whose labels name only what exists
pub label-exists : (n : Counts) (before c g : ℕ) (rec : List ℕ) → LabelIn n.edition before n.levels c g rec
    → within c (all_below n.compartments) ≡ true → within g (all_below n.groups) ≡ true → label_after n before rec ≡ true
unfolding label_after
label-exists n before c g rec k p q =
    both _ _ (both _ _ (both _ _ (lt-ltb _ _ k.rises) (lt-ltb _ _ k.level)) (within-trans _ _ _ k.named p)) (within-trans _ _ _ k.grouped q)

-- the last tag of a run
pub last-tag : (size first : ℕ) (run : List ℕ) (count : ℕ) → 1 ≤ count → run_tag size run (count - 1) ≡ tag_before size first run count
last-tag size first run count some =
    let whole : count - 1 + 1 ≡ count = omega arith in
    tag-next size first run (count - 1) ∙ ap (tag_before size first run) whole

-- no label of the run breaks a rule; k is the place of the first, and `previous` the record before it
module _ (n : Counts) (few : n.levels ≤ 256) (size k : ℕ) (is : size ≡ record_size n.edition Label) (previous run : List ℕ)
    (count : ℕ) (some : 1 ≤ count) (long : length run / size ≡ count) where
  abbrev first : ℕ
  first = cond (eqb k 0) 0 (tag_of previous)

  pub run-fine : ((j : ℕ) → j < count → run_after n size first run j ≡ true) → tag_before size first run count ≤ 99999999
      → count ≡ first_bad_of_run Label n k previous run
  run-fine each limited =
      let wrong : first_bad (run_after n size first run) count 0 ≡ count =
      all-good (run_after n size first run) count 0 (λ j low high. each j (omega arith)) ∙ zero-add count in
      let rises : TagsRise size run count = subst (TagsRise size run) wrong (passed-rise n size first run count) in
      let last = last-tag size first run count some in
      let above : count ≡ first_bad (tag_limited size run) count 0 = last-limited size run count count rises some (omega arith) (rw last limited) in
      above ∙ ap (λ (m : ℕ). first_bad (tag_limited size run) m 0) (sym wrong)
      ∙ ap (λ (m : ℕ). first_bad (tag_limited size run) (first_bad (run_after n size first run) m 0) 0) (sym long)
      ∙ searched n few size k is previous run

-- ---- a full block
module _ (n : Counts) (shape : Shape) (roomy : Roomy shape) (is : shape.size ≡ record_size n.edition Label) (block : List ℕ)
    (whole : length block ≡ 512) where
  some_size : 1 ≤ shape.size
  some_size = rw is (size-some n.edition Label)

  full-long : length (full_run shape block) ≡ shape.size * shape.capacity
  full-long = part_length block 4 (shape.size * shape.capacity) (omega (arith, roomy.room))

  pub full-count : length (full_run shape block) / shape.size ≡ shape.capacity
  full-count = ap (λ (l : ℕ). l / shape.size) full-long ∙ mul-div_right shape.capacity some_size

  -- all that is asked of a block, as code asks it
  pub fine-holds : AreBytes block → number2 block 0 ≡ 76 + 256 * shape.capacity
      → all_zero (part block (full_end shape) (510 - full_end shape)) ≡ true
      → (before last c g : ℕ)
      → GatheredOf n.edition shape.size (full_run shape block) before n.levels (length (full_run shape block) / shape.size) last c g
      → within c (all_below n.compartments) ≡ true → within g (all_below n.groups) ≡ true → last ≤ 99999999
      → FineBlock n shape before block last
  unfolding number2
  fine-holds bytes head unused before last c g all p q limited =
      let w = rw full-count at all in
      record {
        kind = omega (arith, head, bytes 0, bytes 1);
        number = omega (arith, head, bytes 0, bytes 1);
        unused = unused;
        each = λ j h. label-exists n _ c g _ (w.each j h) p q;
        end = w.end;
        limited = limited;
      }
