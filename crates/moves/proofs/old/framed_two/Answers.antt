use mathlib.Core.Path.{sym, ◌∙◌}
use native.Mathlib.Omega.{arith}
use Rattle.blocks.specs.Blocks.{block_count}
use Rattle.blocks.proofs.Meaning.{length-means}
use Rattle.moves.specs.Moving.{framed_two}
use Rattle.moves.proofs.old.framed_two.Goals as goal

pub returns-then-not-length_ok : goal.returns-then-not-length_ok
unfolding framed_two
returns-then-not-length_ok c = rw (sym c.length_ok.ensures ∙ c.if-not-length_ok.true)

pub edition_of-requires : goal.edition_of-requires
edition_of-requires c =
    let kept = length-means _ (sym c.length_ok.ensures ∙ c.if-not-length_ok.false) in
    omega (arith, kept.some, kept.whole)

pub first_bad_block-requires : goal.first_bad_block-requires
first_bad_block-requires c =
    (length-means _ (sym c.length_ok.ensures ∙ c.if-not-length_ok.false)).whole

pub returns-in-One : goal.returns-in-One
unfolding framed_two
returns-in-One c =
    rw (sym c.length_ok.ensures ∙ c.if-not-length_ok.false, sym c.edition_of.ensures ∙ c.in-One.is)

pub returns-in-Two : goal.returns-in-Two
unfolding framed_two block_count
returns-in-Two c =
    rw (
      sym c.length_ok.ensures ∙ c.if-not-length_ok.false,
      sym c.edition_of.ensures ∙ c.in-Two.is,
      c.first_bad_block.ensures,
    )
