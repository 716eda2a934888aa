use Prim.Native.Nat.{ℕ, ◌+◌, ◌<◌, min}
use mathlib.Core.Path.{◌≡◌, sym, ap, ◌∙◌}
use mathlib.Core.List.{List}
use native.Mathlib.Omega.{arith}
use Rattle.header.specs.declared.edition.Edition.{Edition}
use Rattle.header.specs.declared.edition.Edition.TheVariants.{One}
use Rattle.header.specs.declared.layout.Kind.{Kind}
use Rattle.header.specs.Layout.{edition_of, capacity_of, count_of, Fitted}
use Rattle.header.proofs.Inside.{header-inside}
use Rattle.buffers.proofs.Left.{left-start, left-room, left-turn, left_end}
use Rattle.writing.proofs.KindSteps.{kind-start, kind-end, KindTurn, kind-turn}
use Rattle.moves.specs.declared.target.Move.{Move}
use Rattle.moves.specs.Moved.{edition_after, new_records}
use Rattle.moves.proofs.NewImage.{new-count}
use Rattle.moves.proofs.Steps.{kind-is, new-sized, new-kind-long}
use Rattle.moves.proofs.packing.move_kind.Goals as goal

-- a turn of the loop, by the numbers that code has
turn : (which : Move) (im : List ℕ) (kind : Kind) (from to b : ℕ) {held count : ℕ} {edition : Edition} → Fitted im → edition_of im ≡ One
    → count ≡ count_of im kind → held ≡ capacity_of edition kind → edition ≡ edition_after which → to ≡ min count (from + held) → from < count
    → KindTurn (edition_after which) kind (new_records which im kind) from to b
turn which im kind from to b fit one n h after e more =
    kind-turn (edition_after which) kind (new_records which im kind) from to b (new-sized which im kind fit one) (n ∙ sym (new-count which im kind))
    (h ∙ ap (λ (x : Edition). capacity_of x kind) after) e more

pub count-count-requires : goal.count-count-requires
count-count-requires g c = header-inside _ c.requires.fitted.0

pub loop-from-init : goal.loop-from-init
loop-from-init g c =
    let args = c.args in
    let first = kind-start (edition_after g.S.Step.which) args.kind (new_records g.S.Step.which args.image.now args.kind) args.place in
    (omega arith, (omega arith, left-start _ _ _ _ (first ∙ kind-is g.S.Step.which args.image.now args.kind args.place)))

pub move_block-end-requires : goal.move_block-end-requires
move_block-end-requires g c =
    let a = c.args in
    let fitted = c.requires.fitted in
    let t = turn g.S.Step.which c.args.image.now c.args.kind c.loop-from.from c.lower-to.result c.loop-from.b c.requires.fitted.0 c.requires.fitted.1.0
    c.count-count.ensures.0 c.capacity-held.ensures.0 c.edition.ensures c.lower-to.ensures c.loop-from-test.true in
    let room = rw (← new-kind-long g.S.Step.which a.image.now a.kind fitted.0 fitted.1.0 a.place) at c.requires.kind_in_bounds in
    let count = new-count g.S.Step.which a.image.now a.kind in
    record {
      fitted = (fitted.0, (fitted.1.0, omega (arith, t.upto)));
      from_le_to = (t.low, t.few);
      place_bound = (
        omega (arith, t.here, c.loop-from.invariant.1.0),
        rw (← t.long) (left-room _ _ _ _ _ _ c.loop-from.invariant.1.1 _ _ t.step room),
      );
    }

pub loop-from-preserved : goal.loop-from-preserved
loop-from-preserved g c =
    let a = c.args in
    let fitted = c.requires.fitted in
    let t = turn g.S.Step.which c.args.image.now c.args.kind c.loop-from.from c.lower-to.result c.loop-from.b c.requires.fitted.0 c.requires.fitted.1.0
    c.count-count.ensures.0 c.capacity-held.ensures.0 c.edition.ensures c.lower-to.ensures c.loop-from-test.true in
    let room = rw (← new-kind-long g.S.Step.which a.image.now a.kind fitted.0 fitted.1.0 a.place) at c.requires.kind_in_bounds in
    let inv = c.loop-from.invariant in
    (omega arith, (omega arith, left-turn _ _ _ _ _ _ inv.1.1 _ _ t.step _ _ room c.move_block-end.ensures))

pub returns : goal.returns
returns g c =
    let args = c.args in
    let told = c.count-count.ensures.0 ∙ sym (new-count g.S.Step.which args.image.now args.kind) in
    left_end _ _ _ _ _ _ c.loop-from.invariant.1.1
    (kind-end (edition_after g.S.Step.which) args.kind (new_records g.S.Step.which args.image.now args.kind) _ _ (omega (arith, told)))
