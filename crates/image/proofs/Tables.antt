-- What a check tells that lends a table of groups: a fault is told with whatever the table holds. Assumes nothing.
use Rattle.std.specs.Prelude.{Ok, Err}
use mathlib.Core.Path.{◌≡◌, refl}
use mathlib.Core.Bool.{Bool, true, false}
use mathlib.Core.List.{List}
use Prim.Native.Nat.{ℕ}
use lib.Dec.{ltb}
use Rattle.header.specs.Layout.{blocks_needed}
use Rattle.image.specs.declared.faults.Fault.{Fault}
use Rattle.image.specs.Faults.{Inspection, no_fault, fault_where, shown_as}
use Rattle.image.specs.Walk.{first_bad_content, content_fault, range_fault, contents_fault, group_fault, counted_fault, Tells}
use Rattle.image.proofs.Lowest.{or_else}

-- there is no fault where the image is shown as accepted
pub shown-sound : (r : Inspection) → shown_as r ≡ Ok tt → r ≡ no_fault
shown-sound (Ok sound) e = refl
shown-sound (Err f) e = absurd cc

-- a fault is told, whatever the table holds
pub tells-fault : {im table : List ℕ} {right : Inspection} {f : Fault} → Err f ≡ right → Tells im table right (Err f)
tells-fault e = record { same = e; filled = λ q. absurd cc }

-- the blocks after the header, and then the groups
pub counted-parts : (im : List ℕ) → counted_fault im ≡ or_else (contents_fault im) (group_fault im)
unfolding range_fault first_bad_content counted_fault
counted-parts im = at (ltb (first_bad_content im) (blocks_needed im))
  where
    at : (t : Bool)
        → fault_where t (content_fault im (first_bad_content im)) (group_fault im)
        ≡ or_else (fault_where t (content_fault im (first_bad_content im)) no_fault) (group_fault im)
    at true = refl
    at false = refl
