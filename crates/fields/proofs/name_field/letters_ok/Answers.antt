use Prim.Native.Nat.{ℕ}
use mathlib.Core.Path.{◌≡◌, refl, ap, ◌∙◌}
use mathlib.Core.Bool.{not, not-not}
use native.Mathlib.Omega.{arith}
use Rattle.fields.specs.Names.{name_byte, letter_at}
use Rattle.fields.specs.Scan.{first_bad, everywhere}
use Rattle.fields.proofs.NameBytes.{letters-next}
use Rattle.fields.proofs.name_field.letters_ok.Goals as goal

pub loop-j-init : goal.loop-j-init
unfolding first_bad
loop-j-init c = refl

pub loop-j-preserved : goal.loop-j-preserved
unfolding name_byte
loop-j-preserved c =
    let l = c.loop-j in
    rw (c.is_ascii_uppercase.ensures.value, c.is_ascii_digit.ensures.value) (letters-next _ _ l.j _ l.invariant)

pub returns : goal.returns
returns c =
    let l = c.loop-j in
    let a = c.args in
    let e : l.j ≡ 32 = omega arith in
    ap not l.invariant ∙ not-not _ ∙ ap (λ (k : ℕ). everywhere (letter_at a.bytes.now a.inside.now) k 0) e
