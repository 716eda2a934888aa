use native.Mathlib.Omega.{arith}
use Rattle.sets.proofs.Squares.{three-stages}
use Rattle.sets.proofs.transposed.transpose.Goals as goal

pub returns : goal.returns
returns c =
    record {
      size = c.stage-3.ensures.size;
      bits = three-stages _ _ _ _ c.stage.ensures c.stage-2.ensures c.stage-3.ensures;
      words = λ i h. omega (arith, c.type_inv.rows i);
    }
