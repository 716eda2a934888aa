use Prim.Native.Nat.{◌%◌, ◌≤◌}
use mathlib.Core.Path.{sym, ◌∙◌}
use native.Mathlib.Omega.{arith}
use lib.Pow.{pow_mono, pow_pos}
use Rattle.sets.specs.Sets.{all_below}
use Rattle.maps.proofs.EveryLabel.{whole-differs, whole-full, whole-last}
use Rattle.maps.proofs.whole.is_whole.Goals as goal

pub returns-then-not-all_set : goal.returns-then-not-all_set
returns-then-not-all_set c =
    whole-differs _ _ c.requires (sym c.all_set.ensures ∙ c.if-not-all_set.true)

pub returns-then-rest-eq0 : goal.returns-then-rest-eq0
returns-then-rest-eq0 c =
    whole-full _ _ c.requires (sym c.all_set.ensures ∙ c.if-not-all_set.false) c.if-rest-eq0.true

pub overflow_cast-last : goal.overflow_cast-last
unfolding all_below
overflow_cast-last c =
    let n = c.args.labels in
    let small : n % 8 ≤ 8 = omega arith in
    record { fits = omega (arith, c.all_below-last.ensures, pow_mono small, pow_pos (n % 8)) }

pub returns : goal.returns
returns c =
    whole-last _ _ c.requires (sym c.all_set.ensures ∙ c.if-not-all_set.false) c.if-rest-eq0.false _ c.all_below-last.ensures
