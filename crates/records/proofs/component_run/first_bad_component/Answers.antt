use Rattle.std.proofs.Common.{◌≡◌, ℕ, ◌+◌, ◌-◌, ◌*◌, ◌/◌, ◌<◌, ◌≤◌, List, length, take, drop, ap, ◌∙◌, subst, arith}
use Rattle.fields.specs.Bytes.{AreBytes}
use Rattle.fields.specs.Scan.{first_bad}
use Rattle.fields.proofs.Scan.{loop-end, part-bad, part-good, bad-upto}
use Rattle.header.specs.declared.counts.Counts.{Counts}
use Rattle.header.specs.declared.layout.Kind.TheVariants.{Component}
use Rattle.header.specs.Layout.{class_at}
use Rattle.records.specs.declared.component_run.Asked.{Asked}
use Rattle.records.specs.ComponentRuns.{asked_of, lowest_form, run_asked, ClassUpto}
use Rattle.records.specs.Rules.{class_start, run_before, run_rule}
use Rattle.records.proofs.ComponentRuns.{upto-taken}
use Rattle.records.proofs.ComponentTests.{low_first, class-bad}
use Rattle.records.proofs.component_run.first_bad_component.Goals as goal

-- the place that is found among the r records from place j on, which are of one class
module _ (n : Counts) (k : ℕ) (previous run : List ℕ) (j left r low : ℕ) (class : ClassUpto n (k + j) (k + j + left) (k + j + r))
    (ends : j + left ≡ length run / 40) where
  in-class : (asked : Asked) → asked ≡ asked_of n (class_at n (k + j)) → low ≡ lowest_form n (k + j) (run_before 40 previous run j) → AreBytes run
      → let part = take (40 * (j + r) - 40 * j) (drop (40 * j) run) in
      j + first_bad (run_asked asked low part) (length part / 40) 0 ≡ first_bad (run_rule Component n k previous run) (j + r - j) j
  in-class asked is first bytes =
      let upto : j ≤ j + r = omega arith in
      let inside : 40 * (j + r) ≤ length run = omega (arith, class.upto) in
      rw (is, upto-taken run j (j + r))
      (class-bad n k previous run j (j + r) low upto inside (λ i a b. class.same i a (omega arith)) first bytes)

pub overflow_add-bad : goal.overflow_add-bad
overflow_add-bad c =
    let l = c.loop-j in
    let a = c.args in
    let ends : l.j + (length a.run.now / 40 - l.j) ≡ length a.run.now / 40 = omega (arith, c.loop-j-test.true) in
    let rule = run_rule Component a.counts a.k a.previous.now a.run.now in
    let found : l.j + c.first_bad_in_class.result ≡ first_bad rule (l.j + c.class_left.result - l.j) l.j =
    ap (λ (m : ℕ). l.j + m) c.first_bad_in_class.ensures
    ∙ in-class a.counts a.k a.previous.now a.run.now l.j _ _ _ c.class_left.ensures ends _ c.asked_at.ensures
    (l.invariant.1.0 c.loop-j-test.true) (λ i. (c.type_inv.run i).fits) in
    let upto = bad-upto rule (l.j + c.class_left.result - l.j) l.j in
    omega (arith, found, upto, c.class_left.ensures.upto, c.loop-j-test.true)

pub returns-then-bad-to : goal.returns-then-bad-to
returns-then-bad-to c =
    let l = c.loop-j in
    let a = c.args in
    let ends : l.j + (length a.run.now / 40 - l.j) ≡ length a.run.now / 40 = omega (arith, c.loop-j-test.true) in
    let rule = run_rule Component a.counts a.k a.previous.now a.run.now in
    let found : l.j + c.first_bad_in_class.result ≡ first_bad rule (l.j + c.class_left.result - l.j) l.j =
    ap (λ (m : ℕ). l.j + m) c.first_bad_in_class.ensures
    ∙ in-class a.counts a.k a.previous.now a.run.now l.j _ _ _ c.class_left.ensures ends _ c.asked_at.ensures
    (l.invariant.1.0 c.loop-j-test.true) (λ i. (c.type_inv.run i).fits) in
    let to : ℕ = l.j + c.class_left.result in
    let low : l.j ≤ to = omega arith in
    let high : to ≤ length a.run.now / 40 = omega (arith, c.class_left.ensures.upto, c.loop-j-test.true) in
    part-bad _ _ _ _ _ _ low high l.invariant.1.1 found c.if-bad-to.true

pub loop-j-preserved : goal.loop-j-preserved
loop-j-preserved c =
    let l = c.loop-j in
    let a = c.args in
    let ends : l.j + (length a.run.now / 40 - l.j) ≡ length a.run.now / 40 = omega (arith, c.loop-j-test.true) in
    let rule = run_rule Component a.counts a.k a.previous.now a.run.now in
    let found : l.j + c.first_bad_in_class.result ≡ first_bad rule (l.j + c.class_left.result - l.j) l.j =
    ap (λ (m : ℕ). l.j + m) c.first_bad_in_class.ensures
    ∙ in-class a.counts a.k a.previous.now a.run.now l.j _ _ _ c.class_left.ensures ends _ c.asked_at.ensures
    (l.invariant.1.0 c.loop-j-test.true) (λ i. (c.type_inv.run i).fits) in
    let class = c.class_left.ensures in
    let to : ℕ = l.j + c.class_left.result in
    let low : l.j ≤ to = omega arith in
    let high : to ≤ length a.run.now / 40 = omega (arith, class.upto, c.loop-j-test.true) in
    let at : a.k + l.j + c.class_left.result ≡ a.k + to = omega arith in
    let begins : to < length a.run.now / 40 → a.k + to ≡ class_start a.counts (a.k + to) =
    λ h. subst (λ (i : ℕ). i ≡ class_start a.counts i) at (class.begins (omega arith)) in
    (high, ((λ h. low_first _ _ _ (begins h)), part-good _ _ _ _ _ _ low high l.invariant.1.1 found c.if-bad-to.false))

pub returns : goal.returns
returns c = loop-end _ _ _ _ c.loop-j-test.false c.loop-j.invariant.1.1
