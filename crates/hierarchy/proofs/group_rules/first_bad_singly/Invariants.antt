use Prim.Native.Nat.{◌-◌}
use mathlib.Core.Path.{◌≡◌}
use Rattle.fields.specs.Scan.{first_bad}
use Rattle.hierarchy.specs.Forest.{forest_by}
use Rattle.hierarchy.specs.Users.{user_rule, first_bad_user}
use Rattle.hierarchy.proofs.group_rules.first_bad_singly.Given as goal

abbrev pub invariant-loop-u : goal.invariant-loop-u
invariant-loop-u l =
    first_bad (user_rule l.profile (forest_by l.count l.table) l.users l.bytes) (l.users.count - l.u) l.u
    ≡ first_bad_user l.profile (forest_by l.count l.table) l.users l.bytes
