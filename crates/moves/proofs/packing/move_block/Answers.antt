use Prim.Native.Nat.{ℕ, ◌+◌, ◌-◌, ◌≤◌}
use mathlib.Core.Path.{◌≡◌, refl, sym, ap₂}
use mathlib.Core.List.{List, ◌++◌, flatten}
use native.Mathlib.Omega.{arith}
use borrow.Author.Rules.{rules}
use lib.ListN.{length}
use Rattle.header.specs.declared.edition.Edition.{Edition}
use Rattle.header.specs.declared.edition.Edition.TheVariants.{One}
use Rattle.header.specs.declared.layout.Kind.{Kind}
use Rattle.header.specs.Layout.{edition_of, kind_byte, record_size, count_of, Fitted}
use Rattle.header.proofs.Editions.{kind-roomy}
use Rattle.writing.specs.Laid.{head_of, block_of, Sized}
use Rattle.writing.proofs.Ended.{block_written}
use Rattle.writing.proofs.KindSteps.{run_of, run-count, run-used, run_fits, room_after, then-written, written_same}
use Rattle.moves.specs.declared.target.Move.{Move}
use Rattle.moves.specs.Moved.{edition_after, new_records}
use Rattle.moves.specs.Parts.{new_capacity}
use Rattle.moves.proofs.NewImage.{new-count}
use Rattle.moves.proofs.Steps.{new-sized}
use Rattle.moves.proofs.packing.move_block.Goals as goal

-- the block's records, among all of the kind
module _ (which : Move) (im : List ℕ) (kind : Kind) (from to : ℕ) where
  abbrev edition : Edition
  edition = edition_after which

  abbrev records : List (List ℕ)
  records = new_records which im kind

  abbrev run : List (List ℕ)
  run = run_of edition kind records from to

  module _ (fitted : Fitted im × ((edition_of im ≡ One) × (to ≤ count_of im kind))) (some : (from ≤ to) × (to ≤ from + new_capacity which kind)) where
    high : to ≤ length records
    high = omega (arith, new-count which im kind, fitted.1.1)

    sized : Sized (record_size edition kind) records
    sized = new-sized which im kind fitted.0 fitted.1.0

    count : length run ≡ to - from
    count = run-count edition kind records from to some.0 high

    fits : length (flatten run) ≤ 506
    fits = run_fits edition kind records sized from to some.0 high some.1

    used : (place : ℕ) → length (head_of (kind_byte kind) (length run) place ++ flatten run) ≤ 510
    used place = run-used edition kind records sized from to some.0 high some.1 place

pub overflow_cast-count : goal.overflow_cast-count
overflow_cast-count g c = omega (arith, (kind-roomy (edition_after g.S.Step.which) c.args.kind 0 0).few)

pub put_records-end-requires : goal.put_records-end-requires
put_records-end-requires g c =
    let a = c.args in
    let few = fits g.S.Step.which a.image.now a.kind a.from a.to c.requires.fitted c.requires.from_le_to in
    record {
      fitted = c.requires.fitted;
      to_in_bounds = room_after 4 508 refl c.requires.place_bound.1 c.put_head-head.ensures _ (omega (arith, few));
    }

pub put_end-requires : goal.put_end-requires
put_end-requires g c =
    let a = c.args in
    let few = fits g.S.Step.which a.image.now a.kind a.from a.to c.requires.fitted c.requires.from_le_to in
    (omega (arith, c.put_head-head.ensures.stop, c.put_records-end.ensures.stop), search rules)

pub returns : goal.returns
unfolding block_of
returns g c =
    let a = c.args in
    let room = c.requires.place_bound.1 in
    let told = count g.S.Step.which a.image.now a.kind a.from a.to c.requires.fitted c.requires.from_le_to in
    let first = ap₂ (λ (k n : ℕ). head_of k n a.place) c.kind_byte.ensures (sym told) in
    let head = written_same first c.put_head-head.ensures in
    let rest = c.put_records-end.ensures in
    let whole = then-written 4 508 refl room head {y = flatten (run g.S.Step.which a.image.now a.kind a.from a.to)} rest in
    let few = used g.S.Step.which a.image.now a.kind a.from a.to c.requires.fitted c.requires.from_le_to a.place in
    block_written _ few room whole _ (omega (arith, head.stop, rest.stop)) c.put_end.ensures
