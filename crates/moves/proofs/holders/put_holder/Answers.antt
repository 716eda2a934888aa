use mathlib.Core.Path.{refl, sym, ◌∙◌}
use mathlib.Core.List.{[]}
use native.Mathlib.Omega.{arith}
use Rattle.buffers.proofs.Left.{written_none}
use Rattle.header.proofs.Editions.{counted-users}
use Rattle.moves.proofs.holders.put_holder.Goals as goal

pub returns-then-not-is_holder : goal.returns-then-not-is_holder
returns-then-not-is_holder c = rw (sym c.is_holder.ensures ∙ c.if-not-is_holder.true) (written_none _ _ [] refl)

pub overflow_cast-u : goal.overflow_cast-u
overflow_cast-u c =
    record { fits = omega (arith, c.requires.counted.1, counted-users _ c.requires.counted.0) }

pub returns : goal.returns
returns c =
    rw (sym c.is_holder.ensures ∙ c.if-not-is_holder.false) c.put.ensures
