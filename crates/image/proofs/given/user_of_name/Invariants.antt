use Prim.Native.Nat.{ℕ, ◌-◌}
use mathlib.Core.List.{List}
use mathlib.Core.Bool.{Bool}
use mathlib.Core.Path.{◌≡◌}
use Rattle.records.specs.Fields.{user_name}
use Rattle.fields.specs.Names.{same_bytes}
use Rattle.fields.specs.Scan.{first_where}
use Rattle.header.specs.Layout.{users, user_record, Standing}
use Rattle.image.specs.Lookup.{user_of_name}
use Rattle.image.proofs.given.user_of_name.Given as goal

-- does the user at place u have that name?
abbrev pub named : List ℕ → List ℕ → ℕ → Bool
named im name u = same_bytes (user_name (user_record im u)) name

abbrev pub invariant-loop-u : goal.invariant-loop-u
invariant-loop-u l =
    (l.shape.count ≡ users l.image)
    × (Standing l.shape l.u l.here × (first_where (named l.image l.name) (users l.image - l.u) l.u ≡ user_of_name l.image l.name))
