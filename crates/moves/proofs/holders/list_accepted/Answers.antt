use native.Mathlib.Omega.{arith}
use Rattle.moves.specs.Holders.{holders}
use Rattle.buffers.proofs.FrontWritten.{answer-room, answer-done}
use Rattle.moves.proofs.HolderCount.{holder-count}
use Rattle.moves.proofs.holders.list_accepted.Goals as goal

pub returns-then-buffer-holder_count : goal.returns-then-buffer-holder_count
returns-then-buffer-holder_count c =
    answer-room _ (holders c.args.image.now) _ (holder-count _ c.holder_count.ensures) c.if-buffer-holder_count.true

pub put_holders-count-requires : goal.put_holders-count-requires
put_holders-count-requires c = (c.requires, omega (arith, holder-count _ c.holder_count.ensures))

pub returns : goal.returns
returns c =
    answer-done _ _ _ (holder-count _ c.holder_count.ensures) c.if-buffer-holder_count.false c.put_holders-count.ensures
