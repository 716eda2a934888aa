use mathlib.Core.Path.{◌≡◌, ap, ◌∙◌}
use mathlib.Core.Bool.{Bool, false}
use mathlib.Core.List.{List}
use borrow.Author.Rules.{rules}
use Prim.Native.Nat.{ℕ}
use Rattle.rows.specs.Run.{kept, run_rows}
use Rattle.rows.specs.Mapped.{row_mapped}
use Rattle.rows.specs.Reading.{handed_out}
use Rattle.rows.specs.Slots.{row_held, Complete}
use Rattle.rows.proofs.ByMap.{kept_same}
use Rattle.rows.proofs.CompleteTags.{holding-start, row-held}
use Rattle.rows.proofs.mapped.many_by_map.Goals as goal

-- the rows whose tags are held are handed out
rows-held : (im bits slots run : List ℕ) (w : ℕ) (buffer : List ℕ) → Complete im bits slots
    → handed_out (kept (row_held slots) (run_rows run w)) buffer ≡ handed_out (kept (row_mapped im bits false) (run_rows run w)) buffer
rows-held im bits slots run w buffer complete =
    ap (λ (rows : List (List ℕ)). handed_out rows buffer) (kept_same _ _ (row-held im bits slots complete) (run_rows run w))

pub fill-requires : goal.fill-requires
fill-requires c = record { mapping = c.args.mapped.now.mapping; holding = holding-start _ _ }

pub returns-then-not-fill : goal.returns-then-not-fill
returns-then-not-fill c =
    let a = c.args in
    let m = a.mapped.now in
    c.read_kept.ensures
    ∙ ap (λ (u : Bool). handed_out (kept (row_mapped m.image.now m.bits.now u) (run_rows a.run.now a.width)) a.buffer.now) (search rules)

pub returns : goal.returns
returns c = c.read_held.ensures ∙ rows-held _ _ _ _ _ _ (c.fill.ensures c.if-not-fill.false)
