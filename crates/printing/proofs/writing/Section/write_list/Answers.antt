use native.Mathlib.Nat.{sub-zero}
use native.Mathlib.Omega.{arith}
use Rattle.sets.specs.Groups.{places_of}
use Rattle.buffers.proofs.Left.{left-start, left-room, left-turn, left_end}
use Rattle.printing.specs.Print.{entry_at}
use Rattle.printing.proofs.Listed.{listed-end, listed-step}
use Rattle.printing.proofs.writing.Section.write_list.Goals as goal

pub loop-p-init : goal.loop-p-init
loop-p-init c = left-start _ _ _ _ (rw sub-zero)

pub write_entry-end-requires-clause-place_in_bounds : goal.write_entry-end-requires-clause-place_in_bounds
write_entry-end-requires-clause-place_in_bounds c =
    let s = c.args.self.now in
    let p = c.loop-p.p in
    left-room _ _ _ _ _ _ c.loop-p.invariant (entry_at s.image.now s.class (places_of s.set) p) _
    (listed-step s.image.now s.class (places_of s.set) s.count p c.loop-p-test.true) c.requires

pub loop-p-preserved : goal.loop-p-preserved
loop-p-preserved c =
    left-turn _ _ _ _ _ _ c.loop-p.invariant _ _ (listed-step _ _ _ _ _ c.loop-p-test.true) _ _ c.requires c.write_entry-end.ensures

pub shape_of-buffer : goal.shape_of-buffer
shape_of-buffer c = c.loop-p.invariant.long

pub returns : goal.returns
returns c = left_end _ _ _ _ _ _ c.loop-p.invariant (listed-end _ _ _ _ _ (omega arith))
