use mathlib.Core.Path.{sym, ◌∙◌}
use Rattle.header.proofs.Inside.{header-inside}
use Rattle.image.proofs.Accepted.{accepted-counted}
use Rattle.labels.proofs.given.read_text.Goals as goal

pub text_limit-requires : goal.text_limit-requires
text_limit-requires c = header-inside _ (accepted-counted _ c.requires).fitted

pub returns-then-not-shape_ok : goal.returns-then-not-shape_ok
returns-then-not-shape_ok c =
    let shape = rw c.text_limit.ensures at c.shape_ok.ensures in
    rw (sym shape ∙ c.if-not-shape_ok.true)

pub returns : goal.returns
returns c =
    let shape = rw c.text_limit.ensures at c.shape_ok.ensures in
    rw (sym shape ∙ c.if-not-shape_ok.false) c.read_parts.ensures
