use Rattle.std.proofs.Common.{◌≡◌, ℕ, ◌+◌, ◌-◌, ◌*◌, ◌<◌, List, take, drop, ◌∙◌, arith}
use native.Mathlib.Nat.{add-sub_cancel_left}
use borrow.Author.Tests.{lt-leb}
use Rattle.fields.specs.Bytes.{number4}
use Rattle.fields.specs.Scan.{first_bad}
use Rattle.records.specs.LabelRuns.{run_tag, tag_limited}
use Rattle.records.proofs.LabelTests.{last-above, last-limited}
use Rattle.records.proofs.label_run.first_above.Goals as goal

-- the tag that code reads at place j
tag_read : (size : ℕ) (run : List ℕ) (j t : ℕ) → t ≡ number4 (take (size * j + size - size * j) (drop (size * j) run)) 0 → t ≡ run_tag size run j
tag_read size run j t e = e ∙ rw add-sub_cancel_left

pub returns-then-number4-le99999999 : goal.returns-then-number4-le99999999
returns-then-number4-le99999999 c =
    let l = c.loop-j in
    let a = c.args in
    let tag = tag_read a.size a.run.now (l.j - 1) _ c.number4.ensures in
    let some : 0 < l.j = omega arith in
    let place : l.j - 1 + 1 ≡ l.j = omega arith in
    place ∙ last-limited a.size a.run.now a.n l.j c.requires.tags_rise some (omega arith) (rw tag at c.if-number4-le99999999.true) ∙ l.invariant

pub loop-j-preserved : goal.loop-j-preserved
loop-j-preserved c =
    let l = c.loop-j in
    let a = c.args in
    let tag = tag_read a.size a.run.now (l.j - 1) _ c.number4.ensures in
    let above = lt-leb _ 99999999 (rw tag at c.if-number4-le99999999.false) in
    last-above (tag_limited a.size a.run.now) l.j (omega arith) above ∙ l.invariant

pub returns : goal.returns
unfolding first_bad
returns c =
    let none : c.loop-j.j ≡ 0 = omega arith in
    rw none at c.loop-j.invariant
