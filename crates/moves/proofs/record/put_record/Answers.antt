use mathlib.Core.Path.{ap, ◌∙◌}
use Rattle.header.specs.declared.edition.Edition.{Edition}
use Rattle.header.specs.Layout.{record_size}
use Rattle.moves.proofs.record.put_record.Goals as goal

pub put-requires : goal.put-requires
put-requires g c =
    (c.record_part.ensures.1.0 ∙ ap (λ (e : Edition). record_size e c.args.kind) c.requires.fitted.1.0, c.requires.kind_in_bounds)

pub returns : goal.returns
returns g c = rw (← c.record_part.ensures.0) c.put.ensures
