use mathlib.Core.Path.{◌≡◌, refl, sym, ap, ◌∙◌}
use mathlib.Core.Bool.{Bool, true, false, true≢false, ◌||◌}
use Rattle.rows.specs.Run.{kept, run_rows}
use Rattle.rows.specs.Mapped.{row_mapped}
use Rattle.rows.specs.Reading.{handed_out}
use Rattle.rows.proofs.mapped.read_by_map.Goals as goal

first-none : (a b : Bool) → (a || b) ≡ false → a ≡ false
first-none true b e = absurd (true≢false e)
first-none false b e = refl

pub many_by_map-requires : goal.many_by_map-requires
many_by_map-requires c = record { run = c.requires; unknown = first-none _ _ c.if-by-run.false }

pub returns : goal.returns
returns c =
    let a = c.args in
    let m = a.by.now in
    let hidden : m.unknown ≡ false = first-none _ _ c.if-by-run.false in
    c.many_by_map.ensures
    ∙ ap (λ (u : Bool). handed_out (kept (row_mapped m.image.now m.bits.now u) (run_rows a.run.now a.width)) a.buffer.now) (sym hidden)
