-- The lowest group whose parents never end: where there is none, the parents of every group end. Assumes nothing.
use Prim.Native.Nat.{◌≤◌, zero-le}
use native.Mathlib.Omega.{arith}
use Rattle.fields.proofs.Scan.{good-before, all-good}
use Rattle.hierarchy.specs.Forest.{Forest, ends_in, first_ring_in, AllEndIn}

-- where no ring is found
pub ring-none : (f : Forest) → f.count ≤ first_ring_in f → AllEndIn f
unfolding first_ring_in
ring-none f e g l = good-before (ends_in f) f.count 0 g zero-le (omega arith)

-- where there is none, none is found
pub ring-past : (f : Forest) → AllEndIn f → f.count ≤ first_ring_in f
unfolding first_ring_in
ring-past f all = omega (arith, all-good (ends_in f) f.count 0 (λ g low high. all g (omega arith)))
