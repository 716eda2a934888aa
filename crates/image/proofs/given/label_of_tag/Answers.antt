use mathlib.Core.Path.{◌∙◌}
use Rattle.image.proofs.Accepted.{accepted-counted}
use Rattle.image.proofs.Halves.{eleven-steps}
use Rattle.image.proofs.given.label_of_tag.Goals as goal

pub search_tag-requires : goal.search_tag-requires
search_tag-requires c = accepted-counted _ c.requires

pub returns : goal.returns
returns c = c.search_tag.ensures ∙ eleven-steps _ _ c.requires
