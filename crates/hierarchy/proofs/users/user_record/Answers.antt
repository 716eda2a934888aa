use Prim.Native.Nat.{◌<◌}
use mathlib.Core.Path.{refl, ◌∙◌}
use native.Mathlib.Nat.{add-sub_cancel_left}
use native.Mathlib.Omega.{arith}
use Rattle.fields.proofs.Laws.{part_length}
use Rattle.header.specs.declared.layout.Kind.TheVariants.{User}
use Rattle.header.proofs.Editions.{size-least}
use Rattle.hierarchy.specs.Users.{user_at}
use Rattle.hierarchy.proofs.UsersHeld.{user_inside}
use Rattle.hierarchy.proofs.users.user_record.Goals as goal

pub overflow_mul-at-2 : goal.overflow_mul-at-2
overflow_mul-at-2 c = omega (arith, user_inside c.args.users c.args.bytes.now c.args.u c.requires (omega arith))

pub returns : goal.returns
unfolding user_at
returns c =
    let l = c.args.users in
    let here : c.args.u < l.count = omega arith in
    let long = part_length c.args.bytes.now _ l.size (user_inside l c.args.bytes.now c.args.u c.requires here) ∙ c.requires.size in
    rw add-sub_cancel_left (record { here = here; is = refl; size = long; least = omega (arith, long, size-least l.edition User) })
