use Rattle.std.proofs.Common.{refl}
use Rattle.records.specs.Rules.{user_levels_rule}
use Rattle.records.proofs.users.levels_ok.Goals as goal

pub returns : goal.returns
unfolding user_levels_rule
returns c = refl
