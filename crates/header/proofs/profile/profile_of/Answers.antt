use Rattle.header.specs.Layout.{profile_of}
use Rattle.header.proofs.profile.profile_of.Goals as goal

pub returns : goal.returns
unfolding profile_of
returns c = c.profile_named.ensures
