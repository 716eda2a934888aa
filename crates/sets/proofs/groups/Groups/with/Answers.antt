-- `sets::groups::Groups::with` meets its contract, by what the word's operation ensures. Assumes nothing.
use Prim.Native.Nat.{ℕ, ◌/◌, ◌%◌}
use mathlib.Core.Path.{◌∙◌}
use native.Mathlib.Omega.{arith}
use Rattle.sets.specs.Sets.{one, union}
use Rattle.sets.specs.Groups.{places_of, words_in}
use Rattle.sets.proofs.EachWord.{joined-with}
use Rattle.sets.proofs.groups.Groups.with.Goals as goal

pub returns : goal.returns
unfolding places_of
returns c =
    let p = c.args.p in
    c.at_place.ensures (λ (w q : ℕ). union w (one q)) (λ w q r is. is)
    ∙ joined-with (words_in c.args.self) (p / 64) (p % 64) p (omega arith) (omega arith) (omega arith)
