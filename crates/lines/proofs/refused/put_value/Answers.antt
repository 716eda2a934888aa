use native.Mathlib.Omega.{arith}
use Rattle.lines.proofs.RefusalText.{named-short, named-told}
use Rattle.lines.proofs.refused.put_value.Goals as goal

pub put_named-requires : goal.put_named-requires
put_named-requires c =
    let a = c.args in
    omega (arith, c.requires.1, named-short a.word.now a.value c.requires.0 c.ranges.value.fits)

pub returns : goal.returns
returns c =
    named-told c.args.word.now c.args.value c.requires.0 c.ranges.value.fits c.put_named.ensures
