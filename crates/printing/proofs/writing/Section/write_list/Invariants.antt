use Prim.Native.Nat.{◌-◌}
use Rattle.sets.specs.Groups.{places_of}
use Rattle.buffers.proofs.Left.{Left}
use Rattle.printing.specs.Print.{listed}
use Rattle.printing.proofs.writing.Section.write_list.Given as goal

abbrev pub invariant-loop-p : goal.invariant-loop-p
invariant-loop-p l =
    let s = l.self in
    Left l.initial.buffer l.at (listed s.image.now s.class (places_of s.set) s.count 0) l.buffer l.end
    (listed s.image.now s.class (places_of s.set) (s.count - l.p) l.p)
