use mathlib.Core.Path.{refl}
use Rattle.rows.specs.Table.{table_run}
use Rattle.rows.proofs.run.run_of.Goals as goal

pub returns : goal.returns
unfolding table_run
returns c = refl
