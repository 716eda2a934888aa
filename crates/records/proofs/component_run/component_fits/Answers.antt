use Rattle.std.proofs.Common.{◌≡◌, ℕ, Bool, true, false, not, ◌&&◌, ◌||◌, eqb, ltb, leb, refl, arith, le-ltb, lt-ltb, eq-eqb, ne_eqb, le-leb, leb-false, leb-true}
use borrow.Author.Tests.{lt-leb, not-true}
use Rattle.fields.proofs.Both.{parts}
use Rattle.fields.proofs.NameBytes.{field-window}
use Rattle.records.specs.Fields.{class_of, numeric_form}
use Rattle.records.specs.ComponentRuns.{component_after}
use Rattle.records.proofs.component_run.component_fits.Goals as goal

module _ (p none parents : ℕ) where
  parent-bad : (not (eqb p none) && leb parents p) ≡ true → (eqb p none || ltb p parents) ≡ false
  parent-bad e =
      let q = parts _ _ e in
      rw (not-true (eqb p none) q.0, le-ltb p parents (leb-true parents p q.1))

  parent-good : (not (eqb p none) && leb parents p) ≡ false → (eqb p none || ltb p parents) ≡ true
  parent-good = at (eqb p none)
    where
      at : (t : Bool) → (not t && leb parents p) ≡ false → (t || ltb p parents) ≡ true
      at true e = refl
      at false e = lt-ltb p parents (leb-false parents p e)

pub returns-then-rec-asked : goal.returns-then-rec-asked
unfolding component_after
returns-then-rec-asked c = rw (ne_eqb _ _ c.if-rec-asked.true)

pub returns-then-form-low : goal.returns-then-form-low
unfolding component_after
returns-then-form-low c =
    let classed : let a = c.args in eqb (class_of a.rec.now) a.asked.class ≡ true = eq-eqb _ _ c.if-rec-asked.false in
    rw (classed, lt-leb _ _ (rw c.number2-form.ensures.0 at c.if-form-low.true))

pub returns-then-form-gt9999 : goal.returns-then-form-gt9999
unfolding component_after
returns-then-form-gt9999 c =
    let classed : let a = c.args in eqb (class_of a.rec.now) a.asked.class ≡ true = eq-eqb _ _ c.if-rec-asked.false in
    let risen : let a = c.args in leb a.low (numeric_form a.rec.now) ≡ true = le-leb _ _ (rw c.number2-form.ensures.0 at c.if-form-low.false) in
    rw (classed, risen, lt-leb _ _ (rw c.number2-form.ensures.0 at c.if-form-gt9999.true))

pub returns-then-parent-asked : goal.returns-then-parent-asked
unfolding component_after
returns-then-parent-asked c =
    let classed : let a = c.args in eqb (class_of a.rec.now) a.asked.class ≡ true = eq-eqb _ _ c.if-rec-asked.false in
    let risen : let a = c.args in leb a.low (numeric_form a.rec.now) ≡ true = le-leb _ _ (rw c.number2-form.ensures.0 at c.if-form-low.false) in
    let limited : let a = c.args in leb (numeric_form a.rec.now) 9999 ≡ true = le-leb _ _ (rw c.number2-form.ensures.0 at c.if-form-gt9999.false) in
    rw (classed, risen, limited, ← c.number8-parent.ensures, parent-bad _ _ _ c.if-parent-asked.true)

pub returns : goal.returns
unfolding component_after
returns c =
    let classed : let a = c.args in eqb (class_of a.rec.now) a.asked.class ≡ true = eq-eqb _ _ c.if-rec-asked.false in
    let risen : let a = c.args in leb a.low (numeric_form a.rec.now) ≡ true = le-leb _ _ (rw c.number2-form.ensures.0 at c.if-form-low.false) in
    let limited : let a = c.args in leb (numeric_form a.rec.now) 9999 ≡ true = le-leb _ _ (rw c.number2-form.ensures.0 at c.if-form-gt9999.false) in
    let rec = c.args.rec.now in
    rw (
      classed,
      risen,
      limited,
      ← c.number8-parent.ensures,
      parent-good _ _ _ c.if-parent-asked.false,
      c.name_ok.ensures,
      field-window rec 1 (omega arith),
    )
