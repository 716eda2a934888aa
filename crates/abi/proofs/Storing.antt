-- A changed session that is laid down, told as a change of a session: the new session and done, or the old one with the refusal. Assumes nothing.
use Prim.Native.Nat.{ℕ}
use mathlib.Core.Path.{◌≡◌, refl}
use mathlib.Core.List.{List}
use Rattle.std.proofs.Common.{Result, Ok, Err}
use Rattle.refusals.specs.declared.Refusal.{Refusal}
use Rattle.refusals.specs.Answers.{PlaceFits, checked_given}
use Rattle.sessions.specs.declared.session.Session.{Session}
use Rattle.sessions.specs.Changes.{change_of}
use Rattle.encoding.specs.Sessions.{changed_given, changed_into, stored}

pub stored-fits : (old : Session) (answer : Result Session Refusal) → PlaceFits (checked_given (change_of old answer).1)
    → PlaceFits (changed_given answer)
stored-fits old (Ok new) h = h
stored-fits old (Err r) h = h

pub stored-is : (old : Session) (answer : Result Session Refusal) (bytes : List ℕ)
    → ◌≡◌ {A = ℕ × List ℕ} (stored answer bytes) (changed_into (change_of old answer).0 (change_of old answer).1 bytes)
stored-is old (Ok new) bytes = refl
stored-is old (Err r) bytes = refl
