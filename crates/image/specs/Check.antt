-- The check of an image: the answer shows the fault with the lowest key.
use Rattle.refusals.specs.Answers.{Checked}
use Rattle.std.specs.Prelude.{ℕ, ◌≡◌, List, Ok}
use Rattle.hierarchy.specs.Below.{Tabled}
use Rattle.image.specs.Faults.{Inspection, lowest, faults_of, shown_as}

-- the fault that is told; none where the image keeps every rule
unfoldable pub fault_of : List ℕ → Inspection
fault_of im = lowest (faults_of im)

-- the answer of `check`
unfoldable pub check_of : List ℕ → Checked
check_of im = shown_as (fault_of im)

-- the image keeps every rule
abbrev pub IsAccepted : List ℕ → Type 0
IsAccepted im = check_of im ≡ Ok tt

-- the answer of a check that lends a table of groups: where the image is accepted the table is filled
pub record ChecksTable (im table : List ℕ) (answer : Checked) : Type 0 where
  pub told : answer ≡ check_of im
  pub filled : answer ≡ (Ok tt) → Tabled im table
