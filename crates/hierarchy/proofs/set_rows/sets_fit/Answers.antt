use Rattle.hierarchy.proofs.set_rows.sets_fit.Goals as goal

pub returns : goal.returns
returns c =
    rw (← c.union.ensures, ← c.union-2.ensures, ← c.union-3.ensures) c.within.ensures
