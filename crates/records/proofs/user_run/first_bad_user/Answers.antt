use Rattle.std.proofs.Common.{◌≡◌, ℕ, ◌+◌, ◌-◌, ◌*◌, ◌/◌, ◌%◌, ◌<◌, ◌≤◌, Bool, cond, ltb, List, length, take, drop, sym, refl, ◌∙◌, arith}
use Rattle.fields.specs.Bytes.{part}
use Rattle.fields.proofs.Scan.{loop-bad, loop-good}
use Rattle.header.specs.declared.counts.Counts.{Counts}
use Rattle.header.specs.declared.layout.Kind.TheVariants.{User}
use Rattle.header.specs.Layout.{record_size}
use Rattle.header.proofs.Editions.{size-least}
use Rattle.records.specs.Rules.{after_rule, run_before, run_rule}
use Rattle.records.proofs.Running.{Turn, turn-at, part-is, ended, resized, before-is, run-rule}
use Rattle.records.proofs.user_run.first_bad_user.Goals as goal

-- the turn at place j; `before` is the record before it, as code finds it
module _ (n : Counts) (size j : ℕ) (run : List ℕ) (is : size ≡ record_size n.edition User) (whole : length run % record_size n.edition User ≡ 0)
    (less : j < length run / size) where
  least : 128 ≤ size
  least = rw is (size-least n.edition User)

  turn : Turn size run (size * j) j
  turn = turn-at size run j (omega (arith, least)) (rw is whole) less

  module _ (k : ℕ) (previous before : List ℕ) (found : before ≡ cond (ltb (size * j) size) previous (part run (size * j - size) size)) where
    before-run : before ≡ run_before size previous run j
    before-run = found ∙ before-is size previous run (size * j) j (omega (arith, least)) refl

    asked : (answer : Bool) → answer ≡ after_rule User n (k + j) before (take (size * j + size - size * j) (drop (size * j) run))
        → answer ≡ run_rule User n k previous run j
    asked answer e = e ∙ run-rule User n size k j previous run before _ is before-run (part-is turn)

pub returns-then-not-user_ok : goal.returns-then-not-user_ok
returns-then-not-user_ok c =
    let n = c.args.existing.counts in
    let size = c.size-size.ensures in
    let more = c.loop-j-test.true in
    let e = asked n _ _ _ size c.requires.exist.1 more c.args.k _ _ c.record_before-before.ensures _ c.user_ok.ensures in
    resized _ _ _ _ _ size (loop-bad _ _ _ _ more c.loop-j.invariant (sym e ∙ c.if-not-user_ok.true))

pub loop-j-preserved : goal.loop-j-preserved
loop-j-preserved c =
    let n = c.args.existing.counts in
    let more = c.loop-j-test.true in
    let e = asked n _ _ _ c.size-size.ensures c.requires.exist.1 more c.args.k _ _ c.record_before-before.ensures _ c.user_ok.ensures in
    loop-good _ _ _ _ more c.loop-j.invariant (sym e ∙ c.if-not-user_ok.false)

pub returns : goal.returns
returns c = resized _ _ _ _ _ c.size-size.ensures (ended _ _ _ _ (omega arith) c.loop-j.invariant)
