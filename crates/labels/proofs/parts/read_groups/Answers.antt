use Rattle.refusals.proofs.Passed.{err-passed}
use Rattle.labels.proofs.Joining.{groups-told, groups_none}
use Rattle.labels.proofs.parts.read_groups.Goals as goal

pub returns-then-text-end : goal.returns-then-text-end
returns-then-text-end c =
    let args = c.args in
    rw c.none.ensures (groups_none args.image.now args.text.now _ _ c.if-text-end.true _)

pub returns-in_err-groups : goal.returns-in_err-groups
returns-in_err-groups c =
    let ends = c.mark_from-stop.ensures in
    rw (err-passed _ c.from_residual.ensures.1)
    (groups-told _ _ _ _ _ c.if-text-end.false ends.0 ends.1.1 _ _ c.in_err-groups.was c.args.compartments c.read_list.ensures)

pub returns : goal.returns
returns c =
    let ends = c.mark_from-stop.ensures in
    groups-told _ _ _ _ _ c.if-text-end.false ends.0 ends.1.1 _ _ c.in_ok-groups.was _ c.read_list.ensures
