-- Tests of several parts: where each part that holds still holds, so does the whole. Assumes nothing.
use mathlib.Core.Path.{◌≡◌, refl, sym}
use mathlib.Core.Bool.{Bool, true, false, cond, ◌&&◌, ◌||◌, true≢false}
use Rattle.header.specs.declared.edition.Edition.{Edition}
use Rattle.header.specs.declared.edition.Edition.TheVariants.{One, Two}
use Rattle.access.specs.Verdicts.{unknown_rule}

pub and_mono : (a b c d : Bool) → (a ≡ true → c ≡ true) → (b ≡ true → d ≡ true) → (a && b) ≡ true → (c && d) ≡ true
and_mono true true c d f g e = rw (f refl, g refl)
and_mono true false c d f g e = absurd (true≢false (sym e))
and_mono false b c d f g e = absurd (true≢false (sym e))

pub or_mono : (a b c d : Bool) → (a ≡ true → c ≡ true) → (b ≡ true → d ≡ true) → (a || b) ≡ true → (c || d) ≡ true
or_mono true b c d f g e = rw (f refl)
or_mono false true true d f g e = refl
or_mono false true false d f g e = g refl
or_mono false false c d f g e = absurd (true≢false (sym e))

pub cond-mono : (t : Bool) {a b c d : Bool} → (a ≡ true → c ≡ true) → (b ≡ true → d ≡ true) → cond t a b ≡ true → cond t c d ≡ true
cond-mono true f g e = f e
cond-mono false f g e = g e

pub unknown-mono : (edition : Edition) {a b : Bool} → (a ≡ true → b ≡ true) → unknown_rule edition a ≡ true → unknown_rule edition b ≡ true
unknown-mono One f e = f e
unknown-mono Two f e = e
