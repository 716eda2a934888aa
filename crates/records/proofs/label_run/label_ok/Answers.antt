use Rattle.std.proofs.Common.{◌≡◌, true, false, ltb, ap, ◌∙◌, le-ltb, lt-ltb}
use Rattle.fields.specs.Bytes.{number4}
use Rattle.sets.specs.Sets.{within, all_below}
use Rattle.records.specs.Fields.{tag_of, label_compartments}
use Rattle.records.specs.LabelRuns.{label_after}
use Rattle.records.proofs.label_run.label_ok.Goals as goal

pub returns-then-number4-before : goal.returns-then-number4-before
unfolding label_after
returns-then-number4-before c =
    let a = c.args in
    rw (le-ltb a.before (tag_of a.rec.now) (rw c.number4.ensures at c.if-number4-before.true))

pub returns-then-levels-number4 : goal.returns-then-levels-number4
unfolding label_after
returns-then-levels-number4 c =
    let a = c.args in
    let higher : ltb a.before (tag_of a.rec.now) ≡ true = lt-ltb _ _ (rw c.number4.ensures at c.if-number4-before.false) in
    let none = le-ltb (number4 a.rec.now 4) a.existing.counts.levels (rw c.number4-2.ensures at c.if-levels-number4.true) in
    rw (higher, none)

pub returns-then-not-within : goal.returns-then-not-within
unfolding label_after
returns-then-not-within c =
    let a = c.args in
    let higher : ltb a.before (tag_of a.rec.now) ≡ true = lt-ltb _ _ (rw c.number4.ensures at c.if-number4-before.false) in
    let levelled : ltb (number4 a.rec.now 4) a.existing.counts.levels ≡ true =
    lt-ltb _ _ (rw c.number4-2.ensures at c.if-levels-number4.false) in
    let exist : within (label_compartments a.rec.now) (all_below a.existing.counts.compartments) ≡ false = cc in
    rw (higher, levelled, exist)

pub returns : goal.returns
unfolding label_after
returns c =
    let a = c.args in
    let higher : ltb a.before (tag_of a.rec.now) ≡ true = lt-ltb _ _ (rw c.number4.ensures at c.if-number4-before.false) in
    let levelled : ltb (number4 a.rec.now 4) a.existing.counts.levels ≡ true =
    lt-ltb _ _ (rw c.number4-2.ensures at c.if-levels-number4.false) in
    let exist : within (label_compartments a.rec.now) (all_below a.existing.counts.compartments) ≡ true = cc in
    rw (higher, levelled, exist)
    (c.groups_exist.ensures ∙ ap (within _) c.requires.exist.0.groups)
