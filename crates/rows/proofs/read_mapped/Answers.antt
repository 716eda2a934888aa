use Rattle.refusals.proofs.Passed.{err-passed}
use mathlib.Core.Path.{sym, ◌∙◌}
use Rattle.image.proofs.Accepted.{accepted-counted}
use Rattle.sessions.specs.Session.{session_of}
use Rattle.rows.specs.Table.{rows_of, readable_rows}
use Rattle.rows.specs.Mapped.{read_mapped_of}
use Rattle.rows.proofs.Held.{held-means}
use Rattle.rows.proofs.ByMap.{mapped-plain}
use Rattle.rows.proofs.Giving.{table_at, call-refused}
use Rattle.rows.proofs.read_mapped.Goals as goal

pub is_map-requires : goal.is_map-requires
is_map-requires c =
    let usable = (table_at _ _ _ _ _ _ c.in_ok-view.was c.table_rights.ensures).1.0 in
    accepted-counted _ usable.accepted

pub returns-then-not-is_map : goal.returns-then-not-is_map
unfolding read_mapped_of
returns-then-not-is_map c =
    let g = table_at _ _ _ _ _ _ c.in_ok-view.was c.table_rights.ensures in
    rw (g.0, ← g.1.1, sym c.is_map.ensures ∙ c.if-not-is_map.true)

pub read_judged-requires : goal.read_judged-requires
read_judged-requires c =
    let usable = (table_at _ _ _ _ _ _ c.in_ok-view.was c.table_rights.ensures).1.0 in
    let is = sym c.is_map.ensures ∙ c.if-not-is_map.false in
    (record { accepted = usable.accepted; whole = held-means _ _ usable.rule _ c.run_of.ensures }, is)

pub returns : goal.returns
unfolding readable_rows rows_of
returns c =
    let a = c.args in
    let g = table_at _ _ _ _ _ _ c.in_ok-view.was c.table_rights.ensures in
    let is = sym c.is_map.ensures ∙ c.if-not-is_map.false in
    let plain = mapped-plain a.image.now (session_of a.session) a.table.now a.width a.bits.now a.buffer.now in
    rw (plain, g.0, ← g.1.1, is, ← c.run_of.ensures) c.read_judged.ensures

pub returns-in_err-view : goal.returns-in_err-view
unfolding read_mapped_of
returns-in_err-view c = rw (err-passed _ c.from_residual.ensures.1) (call-refused _ _ _ _ _ _ _ _ c.in_err-view.was c.table_rights.ensures)
