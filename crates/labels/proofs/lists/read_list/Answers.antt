use mathlib.Core.Path.{◌∙◌}
use Rattle.sets.specs.Words.{joined}
use Rattle.image.proofs.Accepted.{accepted-counted}
use Rattle.labels.proofs.Naming.{list-begun, list-empty}
use Rattle.labels.proofs.lists.read_list.Goals as goal

pub fill-requires : goal.fill-requires
fill-requires c = accepted-counted _ c.requires.0

pub returns-then-at-text : goal.returns-then-at-text
unfolding joined
returns-then-at-text c =
    c.list_read.ensures ∙ c.read_names-names.ensures.words_after ∙ list-begun _ _ _ _ c.if-at-text.true

pub returns : goal.returns
returns c = rw c.none.ensures (list-empty _ _ _ _ c.if-at-text.false)
