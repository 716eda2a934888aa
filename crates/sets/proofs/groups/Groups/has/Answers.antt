-- `sets::groups::Groups::has` meets its contract: the place is looked up in its word. Assumes nothing.
use Prim.Native.Nat.{ℕ, ◌%◌}
use mathlib.Core.Path.{sym, ap, ◌∙◌}
use Rattle.sets.specs.Sets.{has}
use Rattle.sets.specs.Groups.{places_of}
use Rattle.sets.proofs.Words.{has-word_of, joined-first}
use Rattle.sets.proofs.groups.Groups.has.Goals as goal

pub returns-then-p-lt64 : goal.returns-then-p-lt64
unfolding places_of
returns-then-p-lt64 c = c.has.ensures ∙ sym (joined-first _ _ _ c.if-p-lt64.true)

pub returns : goal.returns
returns c =
    let a = c.args in
    c.has-2.ensures ∙ ap (λ (w : ℕ). has w (a.p % 64)) c.word.ensures ∙ sym (has-word_of (places_of a.self) a.p)
