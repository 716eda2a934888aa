use mathlib.Core.Path.{◌∙◌}
use Rattle.refusals.proofs.Passed.{err-passed}
use Rattle.labels.proofs.Joining.{sets-told, sets-read, sets-none}
use Rattle.image.proofs.Accepted.{accepted-counted}
use Rattle.labels.proofs.parts.read_sets.Goals as goal

pub returns-then-text-end : goal.returns-then-text-end
returns-then-text-end c =
    let args = c.args in
    rw c.none.ensures (sets-none args.image.now args.text.now _ _ c.if-text-end.true)

pub returns-in_err-compartments : goal.returns-in_err-compartments
returns-in_err-compartments c =
    let ends = c.mark_from-stop.ensures in
    rw (err-passed _ c.from_residual.ensures.1)
    (sets-told _ _ _ _ _ c.if-text-end.false ends.0 ends.1.1 _ _ c.in_err-compartments.was c.read_list.ensures)

pub returns : goal.returns
returns c =
    let ends = c.mark_from-stop.ensures in
    c.read_groups.ensures
    ∙ rw c.word.ensures
    (sets-read _ _ _ _ _ c.if-text-end.false ends.0 ends.1.1 (accepted-counted _ c.requires.0) _ _
    c.in_ok-compartments.was c.read_list.ensures)
