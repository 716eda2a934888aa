use Rattle.lines.proofs.Rest.{long-output}
use Rattle.lines.proofs.refused.long_input_line.Goals as goal

pub returns : goal.returns
returns c =
    long-output _ c.requires c.refusal_line.ensures.0 c.refusal_line.ensures.1
