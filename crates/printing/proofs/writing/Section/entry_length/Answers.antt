use Prim.Native.Nat.{zero-le}
use mathlib.Core.Path.{sym, ap, ◌∙◌}
use native.Mathlib.Omega.{arith}
use lib.ListN.{length}
use Rattle.printing.proofs.Listed.{entry-lacks, entry-length-has}
use Rattle.printing.proofs.writing.Section.entry_length.Goals as goal

pub returns-then-not-has : goal.returns-then-not-has
returns-then-not-has c = (sym (ap length (entry-lacks _ _ _ _ (sym c.has.ensures ∙ c.if-not-has.true))), zero-le)

pub returns : goal.returns
returns c = (
  entry-length-has _ _ _ _ _ (sym c.has.ensures ∙ c.if-not-has.false) c.name_of.ensures.0,
  omega arith,
)
