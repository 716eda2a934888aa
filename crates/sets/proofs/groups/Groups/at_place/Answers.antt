-- `sets::groups::Groups::at_place` meets its contract: one word is what the operation gives. Assumes nothing.
use Prim.Native.Nat.{◌/◌, ◌%◌}
use mathlib.Core.Path.{◌≡◌, ◌∙◌}
use native.Mathlib.Omega.{arith}
use borrow.Author.Rules.{rules}
use Rattle.sets.specs.Groups.{places_of, words_in}
use Rattle.sets.proofs.Words.{word_of-kept}
use Rattle.sets.proofs.groups.Groups.at_place.Goals as goal

pub returns-then-p-lt64 : goal.returns-then-p-lt64
unfolding places_of
returns-then-p-lt64 g c f is =
    let first : c.args.p / 64 ≡ 0 = omega arith in
    let place : c.args.p % 64 ≡ c.args.p = omega arith in
    rw (first, place, is _ _ _ c.op.ensures)

pub returns : goal.returns
unfolding places_of
returns g c f is =
    let word = c.word.ensures ∙ word_of-kept (words_in c.args.self) (c.args.p / 64) (search rules) in
    rw (c.replaced.ensures, is _ _ _ c.op-2.ensures, word)
