use Prim.Native.Nat.{ℕ}
use mathlib.Core.Path.{◌≡◌, sym, ap, ◌∙◌}
use mathlib.Core.Bool.{Bool, false}
use mathlib.Core.List.{List}
use Rattle.header.proofs.Inside.{header-inside}
use Rattle.image.proofs.Accepted.{accepted-counted}
use Rattle.access.specs.Rights.{rights_of}
use Rattle.maps.proofs.Bits.{rule-enough}
use Rattle.rows.specs.Run.{run_rows}
use Rattle.rows.specs.Table.{row_tag, row_readable}
use Rattle.rows.specs.Reading.{handed_out}
use Rattle.rows.specs.Mapped.{tag_mapped, row_mapped}
use Rattle.rows.proofs.ByMap.{kept_same, tag-mapped}
use Rattle.rows.proofs.EveryRow.{every-kept}
use Rattle.rows.proofs.reading.read_judged.Goals as goal

pub unknown_read-requires : goal.unknown_read-requires
unknown_read-requires c = header-inside _ (accepted-counted _ c.requires.0.accepted).fitted

pub returns-then-unknown_read : goal.returns-then-unknown_read
returns-then-unknown_read c =
    let a = c.args in
    let all = every-kept a.image.now (rights_of a.view) (sym c.unknown_read.ensures ∙ c.if-unknown_read.true) in
    rw (all (run_rows a.run.now a.width)) c.read_whole.ensures

pub invariant_of-mapped : goal.invariant_of-mapped
invariant_of-mapped c = record {
  mapping = record { accepted = c.requires.0.accepted; enough = rule-enough _ _ _ c.requires.1 };
}

pub returns : goal.returns
returns c =
    let a = c.args in
    let im = a.image.now in
    let rights = rights_of a.view in
    let none = sym (sym c.unknown_read.ensures ∙ c.if-unknown_read.false) in
    let same : (row : List ℕ) → row_mapped im a.bits.now false row ≡ row_readable im rights row =
    λ row. ap (λ (u : Bool). tag_mapped im a.bits.now u (row_tag row)) none ∙ tag-mapped im rights a.bits.now c.requires.1 (row_tag row) in
    c.read_by_map.ensures
    ∙ ap (λ (rows : List (List ℕ)). handed_out rows a.buffer.now) (kept_same _ _ same (run_rows a.run.now a.width))
