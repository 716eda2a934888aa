-- `sets::groups::Groups::of_words` meets its contract: the words are kept as they are. Assumes nothing.
use mathlib.Core.Path.{refl}
use Rattle.sets.specs.Groups.{places_of}
use Rattle.sets.proofs.groups.Groups.of_words.Goals as goal

pub returns : goal.returns
unfolding places_of
returns c = refl
