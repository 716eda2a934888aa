use mathlib.Core.Path.{ap, ◌∙◌}
use Rattle.access.specs.Rights.{rights_at}
use Rattle.sessions.specs.Session.{SessionMarks}
use Rattle.sessions.specs.Opening.{default_session}
use Rattle.sessions.proofs.given.opened_rights.Goals as goal

pub returns : goal.returns
unfolding default_session
returns c =
    let a = c.args in
    c.rights_at.ensures
    ∙ ap (λ (s : SessionMarks). rights_at a.image.now a.u s.label) c.default_session.ensures
