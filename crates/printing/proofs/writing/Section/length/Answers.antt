use native.Mathlib.Omega.{arith}
use Rattle.printing.proofs.Sections.{length_none, length_some}
use Rattle.printing.proofs.writing.Section.length.Goals as goal

pub returns-then-n-eq0 : goal.returns-then-n-eq0
returns-then-n-eq0 c = (length_none _ _ _ _ _ c.list_length-n.ensures.0 c.if-n-eq0.true, omega arith)

pub returns : goal.returns
returns c =
    (length_some _ _ _ _ _ c.list_length-n.ensures.0 c.if-n-eq0.false, omega (arith, c.args.self.now.named.few))
