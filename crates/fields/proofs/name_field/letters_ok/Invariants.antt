use mathlib.Core.Path.{◌≡◌}
use mathlib.Core.Bool.{not}
use Rattle.fields.specs.Names.{letter_at}
use Rattle.fields.specs.Scan.{everywhere}
use Rattle.fields.proofs.name_field.letters_ok.Given as goal

abbrev pub invariant-loop-j : goal.invariant-loop-j
invariant-loop-j l = l.bad ≡ not (everywhere (letter_at l.bytes l.inside) l.j 0)
