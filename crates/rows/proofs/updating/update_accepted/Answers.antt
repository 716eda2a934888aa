use mathlib.Core.Path.{sym, ap, ◌∙◌}
use native.Mathlib.Omega.{arith}
use Rattle.access.specs.Rights.{rights_of}
use Rattle.rows.specs.Table.{row_writable}
use Rattle.rows.proofs.Held.{table-means, held-means}
use Rattle.rows.proofs.Answered.{update-payload, update-none, update-denied, update-done}
use Rattle.rows.proofs.Replacing.{table-found, table-missing}
use Rattle.rows.proofs.updating.update_accepted.Goals as goal

pub overflow_sub-width : goal.overflow_sub-width
overflow_sub-width c = let low = (table-means _ _ c.requires.rule).wide in omega arith

pub returns-then-payload-width : goal.returns-then-payload-width
returns-then-payload-width c = update-payload _ _ _ _ _ _ c.if-payload-width.true

pub nth_offset-at-requires : goal.nth_offset-at-requires
nth_offset-at-requires c =
    let pre = c.requires in
    record { accepted = pre.accepted; whole = held-means _ _ pre.rule _ c.run_of-run.ensures }

pub returns-then-run-at : goal.returns-then-run-at
returns-then-run-at c =
    let pre = c.requires in
    update-none _ _ _ _ _ _ c.if-payload-width.false
    (table-missing _ _ _ _ pre.rule _ c.run_of-run.ensures _ _ c.nth_offset-at.ensures c.if-run-at.true)

pub overflow_add-at : goal.overflow_add-at
overflow_add-at c =
    let a = c.args in
    let row = table-found a.image.now (rights_of a.view) _ _ c.requires.rule _ c.run_of-run.ensures _ _ c.nth_offset-at.ensures c.if-run-at.false in
    omega (arith, row.inside, row.within)

pub slice_bounds-is_writable-end : goal.slice_bounds-is_writable-end
slice_bounds-is_writable-end c =
    let a = c.args in
    let row = table-found a.image.now (rights_of a.view) _ _ c.requires.rule _ c.run_of-run.ensures _ _ c.nth_offset-at.ensures c.if-run-at.false in
    omega (arith, row.inside)

pub is_writable-requires : goal.is_writable-requires
is_writable-requires c =
    let a = c.args in
    let row = table-found a.image.now (rights_of a.view) _ _ c.requires.rule _ c.run_of-run.ensures _ _ c.nth_offset-at.ensures c.if-run-at.false in
    (c.requires.accepted, row.tagged)

pub returns-then-not-is_writable : goal.returns-then-not-is_writable
returns-then-not-is_writable c =
    let a = c.args in
    let row = table-found a.image.now (rights_of a.view) _ _ c.requires.rule _ c.run_of-run.ensures _ _ c.nth_offset-at.ensures c.if-run-at.false in
    let writable = ap (row_writable a.image.now (rights_of a.view)) row.nth ∙ sym c.is_writable.ensures in
    update-denied _ _ _ _ _ _ c.if-payload-width.false row.exists (writable ∙ c.if-not-is_writable.true)

pub put-requires : goal.put-requires
put-requires c =
    let a = c.args in
    let row = table-found a.image.now (rights_of a.view) _ _ c.requires.rule _ c.run_of-run.ensures _ _ c.nth_offset-at.ensures c.if-run-at.false in
    omega (arith, row.inside, row.within, c.if-payload-width.false)

pub returns : goal.returns
returns c =
    let a = c.args in
    let row = table-found a.image.now (rights_of a.view) _ _ c.requires.rule _ c.run_of-run.ensures _ _ c.nth_offset-at.ensures c.if-run-at.false in
    let fits = c.if-payload-width.false in
    let writable = ap (row_writable a.image.now (rights_of a.view)) row.nth ∙ sym c.is_writable.ensures in
    update-done _ _ _ _ _ _ fits row.exists (writable ∙ c.if-not-is_writable.false) _ (c.put.ensures.bytes ∙ row.replaced _ fits)
