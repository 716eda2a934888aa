-- `sets::groups::Groups::word` meets its contract: the words that are kept, and no places past them. Assumes nothing.
use borrow.Author.Rules.{rules}
use mathlib.Core.Path.{sym, ◌∙◌}
use Prim.Native.Nat.{◌≤◌}
use native.Mathlib.Omega.{arith}
use lib.ListN.{get_or-eq_default}
use Rattle.sets.specs.Groups.{places_of, words_in}
use Rattle.sets.proofs.Words.{word_of-kept}
use Rattle.sets.proofs.groups.Groups.word.Goals as goal

pub returns-in-0 : goal.returns-in-0
unfolding places_of
returns-in-0 c = rw c.in-0.is (sym (word_of-kept (words_in c.args.self) 0 (search rules)))

pub returns-in-1 : goal.returns-in-1
unfolding places_of
returns-in-1 c = rw c.in-1.is (sym (word_of-kept (words_in c.args.self) 1 (search rules)))

pub returns-in-2 : goal.returns-in-2
unfolding places_of
returns-in-2 c = rw c.in-2.is (sym (word_of-kept (words_in c.args.self) 2 (search rules)))

pub returns-in-3 : goal.returns-in-3
unfolding places_of
returns-in-3 c = rw c.in-3.is (sym (word_of-kept (words_in c.args.self) 3 (search rules)))

pub returns-in_default : goal.returns-in_default
unfolding places_of
returns-in_default c =
    let words = words_in c.args.self in
    let past : 4 ≤ c.args.k = omega arith in
    sym (word_of-kept words c.args.k (search rules) ∙ get_or-eq_default words 0 past)
