use mathlib.Core.Path.{sym}
use Rattle.fields.proofs.Everywhere.{everywhere-none, everywhere-more}
use Rattle.labels.proofs.scan.part_passes.Goals as goal

pub loop-j-init : goal.loop-j-init
loop-j-init g c = sym (everywhere-none _ _)

pub loop-j-preserved : goal.loop-j-preserved
loop-j-preserved g c = rw (c.loop-j.invariant, c.passes-all.ensures) (everywhere-more _ _ _)
