use Rattle.fields.proofs.Laws.{same_length}
use Rattle.fields.proofs.names.same_name.Goals as goal

pub returns-then-a-b : goal.returns-then-a-b
returns-then-a-b c = same_length _ _ c.if-a-b.true
