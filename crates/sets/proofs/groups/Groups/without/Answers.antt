-- `sets::groups::Groups::without` meets its contract, by what the word's operation ensures. Assumes nothing.
use Prim.Native.Nat.{ℕ, ◌/◌, ◌%◌}
use mathlib.Core.Path.{◌∙◌}
use native.Mathlib.Omega.{arith}
use Rattle.sets.specs.Sets.{one, difference}
use Rattle.sets.specs.Groups.{places_of, words_in}
use Rattle.sets.proofs.EachWord.{joined-without}
use Rattle.sets.proofs.groups.Groups.without.Goals as goal

pub returns : goal.returns
unfolding places_of
returns c =
    let p = c.args.p in
    c.at_place.ensures (λ (w q : ℕ). difference w (one q)) (λ w q r is. is)
    ∙ joined-without (words_in c.args.self) (p / 64) (p % 64) p (omega arith) (omega arith) (omega arith)
