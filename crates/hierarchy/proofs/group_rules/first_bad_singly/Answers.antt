use mathlib.Core.Path.{◌≡◌, sym, ◌∙◌}
use native.Mathlib.Omega.{arith}
use Rattle.fields.proofs.Scan.{loop-bad, loop-good, loop-end}
use Rattle.hierarchy.specs.Forest.{forest_by}
use Rattle.hierarchy.specs.Below.{sets_rule, record_sets}
use Rattle.hierarchy.proofs.UsersInRows.{sets-rule}
use Rattle.hierarchy.proofs.group_rules.first_bad_singly.Goals as goal

pub returns-then-not-sets_ok : goal.returns-then-not-sets_ok
unfolding record_sets
returns-then-not-sets_ok c =
    let a = c.args in
    let is = sets-rule a.users a.bytes.now _ (sets_rule a.profile (forest_by a.count a.table.now)) _ c.loop-u-test.true
    c.sets_or_none.ensures in
    loop-bad _ _ _ _ c.loop-u-test.true c.loop-u.invariant (sym (c.sets_ok.ensures ∙ is) ∙ c.if-not-sets_ok.true)

pub loop-u-preserved : goal.loop-u-preserved
unfolding record_sets
loop-u-preserved c =
    let a = c.args in
    let is = sets-rule a.users a.bytes.now _ (sets_rule a.profile (forest_by a.count a.table.now)) _ c.loop-u-test.true
    c.sets_or_none.ensures in
    loop-good _ _ _ _ c.loop-u-test.true c.loop-u.invariant (sym (c.sets_ok.ensures ∙ is) ∙ c.if-not-sets_ok.false)

pub returns : goal.returns
returns c =
    let done : c.args.users.count ≡ c.loop-u.u = omega arith in
    done ∙ loop-end _ _ _ _ c.loop-u-test.false c.loop-u.invariant
