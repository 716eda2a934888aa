use Rattle.std.proofs.Common.{arith}
use Rattle.records.specs.Fresh.{name_key}
use Rattle.records.proofs.fresh.name_key.Goals as goal

pub returns : goal.returns
unfolding name_key
returns c = (cc, omega arith)
