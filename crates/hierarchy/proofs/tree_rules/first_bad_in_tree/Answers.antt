use mathlib.Core.Path.{◌∙◌}
use Rattle.hierarchy.specs.Forest.{forest_by}
use Rattle.hierarchy.proofs.UsersInRows.{filled-fit}
use Rattle.hierarchy.proofs.RowsTell.{good-upto, rows-good, rows-bad, rows_end}
use Rattle.hierarchy.proofs.tree_rules.first_bad_in_tree.Goals as goal

pub returns-then-users-asked : goal.returns-then-users-asked
returns-then-users-asked c =
    let a = c.args in
    let f = forest_by a.count a.table.now in
    let is = c.all_below-all.ensures in
    rows_end f _ is a.users a.bytes.now _ c.if-users-asked.true (good-upto _ _ is _ _ _ _ c.loop-from.invariant.1 c.first_not_plain-asked.ensures)

pub lowest_bad_user-i-requires : goal.lowest_bad_user-i-requires
lowest_bad_user-i-requires c =
    let so = c.fill_rows.ensures c.if-not-fill_rows.false in
    (c.requires.0, (so.size, filled-fit _ _ _ _ _ _ c.all_below-all.ensures so))

pub returns-then-i-lt16 : goal.returns-then-i-lt16
returns-then-i-lt16 c =
    let is = c.all_below-all.ensures in
    let so = c.fill_rows.ensures c.if-not-fill_rows.false in
    let good = good-upto _ _ is _ _ _ _ c.loop-from.invariant.1 c.first_not_plain-asked.ensures in
    rows-bad _ _ is _ _ _ _ so good _ c.lowest_bad_user-i.ensures c.if-i-lt16.true

pub loop-from-preserved : goal.loop-from-preserved
loop-from-preserved c =
    let is = c.all_below-all.ensures in
    let so = c.fill_rows.ensures c.if-not-fill_rows.false in
    let good = good-upto _ _ is _ _ _ _ c.loop-from.invariant.1 c.first_not_plain-asked.ensures in
    (c.rows-in-loop-from-1.given ∙ so.size, rows-good _ _ is _ _ _ _ so good _ c.lowest_bad_user-i.ensures c.if-i-lt16.false)

pub returns : goal.returns
returns c =
    let a = c.args in
    let f = forest_by a.count a.table.now in
    rows_end f _ c.all_below-all.ensures a.users a.bytes.now c.loop-from.from c.loop-from-test.false c.loop-from.invariant.1
