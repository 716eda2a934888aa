use mathlib.Core.Path.{subst}
use Rattle.std.proofs.Common.{Result}
use Rattle.refusals.specs.declared.Refusal.{Refusal}
use Rattle.refusals.specs.Answers.{PlaceFits}
use Rattle.sessions.specs.declared.session.Session.{Session}
use Rattle.encoding.specs.Sessions.{changed_given}
use Rattle.encoding.proofs.bytes104.store.Goals as goal

pub refused-requires : goal.refused-requires
refused-requires c = subst (λ (a : Result Session Refusal). PlaceFits (changed_given a)) c.in-Err.is c.requires

pub returns-in-Ok : goal.returns-in-Ok
returns-in-Ok c = rw (c.in-Ok.is, c.session_bytes.ensures.0)

pub returns-in-Err : goal.returns-in-Err
returns-in-Err c = rw (c.in-Err.is, c.refused.ensures)
