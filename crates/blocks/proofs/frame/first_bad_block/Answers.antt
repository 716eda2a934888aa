use Rattle.std.proofs.Common.{◌≡◌, ◌/◌, length, sym, ◌∙◌, arith}
use native.Mathlib.Nat.{sub-zero}
use Rattle.fields.proofs.Scan.{loop-bad, loop-good, loop-end}
use Rattle.blocks.specs.Blocks.{block_count, first_bad_block}
use Rattle.blocks.proofs.frame.first_bad_block.Goals as goal

pub loop-b-init : goal.loop-b-init
unfolding block_count first_bad_block
loop-b-init c = rw sub-zero

pub returns-then-not-block_ok : goal.returns-then-not-block_ok
returns-then-not-block_ok c = loop-bad _ _ _ _ c.loop-b-test.true c.loop-b.invariant (sym c.block_ok.ensures ∙ c.if-not-block_ok.true)

pub loop-b-preserved : goal.loop-b-preserved
loop-b-preserved c = loop-good _ _ _ _ c.loop-b-test.true c.loop-b.invariant (sym c.block_ok.ensures ∙ c.if-not-block_ok.false)

pub returns : goal.returns
returns c =
    let all : length c.args.image.now / 512 ≡ c.loop-b.b = omega arith in
    all ∙ loop-end _ _ _ _ c.loop-b-test.false c.loop-b.invariant
