use Rattle.std.proofs.Common.{◌≡◌, ◌-◌}
use Rattle.fields.specs.Scan.{first_bad}
use Rattle.blocks.specs.Blocks.{block_rule, first_bad_block}
use Rattle.blocks.proofs.frame.first_bad_block.Given as goal

abbrev pub invariant-loop-b : goal.invariant-loop-b
invariant-loop-b l = first_bad (block_rule l.image) (l.count - l.b) l.b ≡ first_bad_block l.image
