use mathlib.Core.Path.{sym, ◌∙◌}
use Rattle.header.proofs.Inside.{header-inside}
use Rattle.moves.proofs.Steps.{moved_length}
use Rattle.moves.proofs.laying.new_length.Goals as goal

pub components-components-requires : goal.components-components-requires
components-components-requires g c = header-inside _ c.requires.0

pub labels-labels-requires : goal.labels-labels-requires
labels-labels-requires g c = header-inside _ c.requires.0

pub users-users-requires : goal.users-users-requires
users-users-requires g c = header-inside _ c.requires.0

pub returns : goal.returns
returns g c =
    rw (c.edition.ensures, c.components-components.ensures.0, c.labels-labels.ensures.0, c.users-users.ensures.0)
    at c.length_for.ensures
    ∙ sym (moved_length g.S.Step.which c.args.image.now c.requires.0 c.requires.1)
