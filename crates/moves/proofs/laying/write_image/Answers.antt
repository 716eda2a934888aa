use Rattle.moves.specs.Moved.{new_image}
use Rattle.buffers.proofs.FrontWritten.{answer-room, answer-done}
use Rattle.moves.proofs.laying.write_image.Goals as goal

pub returns-then-buffer-new_length : goal.returns-then-buffer-new_length
returns-then-buffer-new_length g c =
    answer-room _ (new_image g.S.Step.which c.args.image.now) _ c.new_length.ensures c.if-buffer-new_length.true

pub returns : goal.returns
returns g c =
    answer-done _ _ _ c.new_length.ensures c.if-buffer-new_length.false c.put_image-length.ensures
