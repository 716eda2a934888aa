use mathlib.Core.Path.{◌∙◌}
use native.Mathlib.Omega.{arith}
use Rattle.std.proofs.lemmas.Bool.Decides.{nat_tests}
use Rattle.std.proofs.lemmas.Grind.{common_steps}
use Rattle.fields.specs.Names.{small_letter, folded}
use Rattle.fields.proofs.folded.fold.Goals as goal

pub returns : goal.returns
unfolding folded small_letter
returns c = c.to_ascii_uppercase.ensures.value ∙ grind (arith, nat_tests, common_steps)
