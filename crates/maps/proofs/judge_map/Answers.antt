use mathlib.Core.Path.{sym, ◌∙◌}
use Rattle.refusals.proofs.Passed.{err-passed}
use Rattle.image.proofs.Accepted.{accepted-counted}
use Rattle.sessions.proofs.Accepting.{lent-accepted, lent_at, lent-refused}
use Rattle.maps.specs.Calls.{judge_map_of}
use Rattle.maps.proofs.judge_map.Goals as goal

pub is_map-requires : goal.is_map-requires
is_map-requires c =
    accepted-counted _ (lent-accepted _ _ (lent_at _ _ _ _ _ c.in_ok-view.was c.lent_rights.ensures).0)

pub returns-in_err-view : goal.returns-in_err-view
unfolding judge_map_of
returns-in_err-view c =
    rw (err-passed _ c.from_residual.ensures.1, lent-refused _ _ _ _ _ c.in_err-view.was c.lent_rights.ensures)

pub returns-then-not-is_map : goal.returns-then-not-is_map
unfolding judge_map_of
returns-then-not-is_map c =
    let g = lent_at _ _ _ _ _ c.in_ok-view.was c.lent_rights.ensures in
    rw (g.0, ← g.1.1, sym c.is_map.ensures ∙ c.if-not-is_map.true)

pub returns : goal.returns
unfolding judge_map_of
returns c =
    let g = lent_at _ _ _ _ _ c.in_ok-view.was c.lent_rights.ensures in
    rw (g.0, ← g.1.1, sym c.is_map.ensures ∙ c.if-not-is_map.false)
