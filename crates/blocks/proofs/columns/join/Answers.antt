use Rattle.std.proofs.Common.{◌∙◌}
use Rattle.blocks.specs.Columns.{column_once, column_term}
use Rattle.blocks.proofs.Cells.{sum_same, sum-pairs}
use Rattle.blocks.proofs.columns.join.Goals as goal

pub returns : goal.returns
returns c =
    let a = c.args in
    let all = c.terms-all.ensures in (
      record {
        all = c.total.ensures.0 ∙ sum_same _ _ 8 all.all ∙ sum-pairs (column_once a.one a.two) 8;
        counted = c.total-2.ensures.0 ∙ sum_same _ _ 8 all.counted ∙ sum-pairs (column_term a.one a.two) 8;
      },
      c.total-2.ensures.1,
    )
