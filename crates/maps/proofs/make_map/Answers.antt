use Rattle.refusals.proofs.Passed.{err-passed}
use Rattle.image.proofs.Accepted.{accepted-counted}
use Rattle.sessions.proofs.Accepting.{lent-accepted, lent_at, lent-refused}
use Rattle.maps.specs.Calls.{make_map_of}
use Rattle.maps.proofs.make_map.Goals as goal

pub write_map-requires : goal.write_map-requires
write_map-requires c =
    accepted-counted _ (lent-accepted _ _ (lent_at _ _ _ _ _ c.in_ok-view.was c.lent_rights.ensures).0)

pub returns-in_err-view : goal.returns-in_err-view
unfolding make_map_of
returns-in_err-view c =
    rw (err-passed _ c.from_residual.ensures.1, lent-refused _ _ _ _ _ c.in_err-view.was c.lent_rights.ensures)

pub returns : goal.returns
unfolding make_map_of
returns c =
    let g = lent_at _ _ _ _ _ c.in_ok-view.was c.lent_rights.ensures in
    rw (g.0, ← g.1.1) c.write_map.ensures
