use Rattle.header.specs.Layout.{edition_of}
use Rattle.header.proofs.edition.edition_of.Goals as goal

pub returns : goal.returns
unfolding edition_of
returns c = c.edition_named.ensures
