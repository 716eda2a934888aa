use mathlib.Core.Path.{sym, ◌∙◌}
use Rattle.refusals.proofs.Passed.{err-passed}
use Rattle.image.proofs.Accepted.{accepted-counted}
use Rattle.moves.specs.Moving.{clear_compaccess_of}
use Rattle.moves.proofs.OldAccepted.{old-accepted}
use Rattle.moves.proofs.clear_compaccess.Goals as goal

pub write_image-requires : goal.write_image-requires
write_image-requires c =
    let kept = old-accepted _ (sym c.old_check.ensures ∙ c.in_ok-old_check.was) in
    (accepted-counted _ kept.0, kept.1)

pub returns : goal.returns
unfolding clear_compaccess_of
returns c =
    rw (sym c.old_check.ensures ∙ c.in_ok-old_check.was) c.write_image.ensures

pub returns-in_err-old_check : goal.returns-in_err-old_check
unfolding clear_compaccess_of
returns-in_err-old_check c =
    rw (err-passed _ c.from_residual.ensures.1) (rw (sym c.old_check.ensures ∙ c.in_err-old_check.was))
