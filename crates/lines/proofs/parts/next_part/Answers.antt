use Prim.Native.Nat.{◌<◌}
use native.Mathlib.Omega.{arith}
use Rattle.header.specs.Layout.{users}
use Rattle.header.proofs.Inside.{header-inside}
use Rattle.image.proofs.Accepted.{accepted-counted}
use Rattle.lines.proofs.Rest.{part_none, part-inside, part-user, part-last}
use Rattle.lines.proofs.parts.next_part.Goals as goal

pub users-count-requires : goal.users-count-requires
users-count-requires c = header-inside _ (accepted-counted _ c.requires.0).fitted

pub returns-then-user-count : goal.returns-then-user-count
returns-then-user-count c = part_none _ _ _ (omega (arith, c.if-user-count.true, c.users-count.ensures.0))

pub opened_rights-view-requires : goal.opened_rights-view-requires
opened_rights-view-requires c =
    let user-here : c.args.from.user < users c.args.image.now = omega (arith, c.if-user-count.false, c.users-count.ensures.0) in
    let pre = c.requires in
    (accepted-counted _ pre.0, (pre.1, user-here))

pub labels-requires : goal.labels-requires
labels-requires c = header-inside _ (accepted-counted _ c.requires.0).fitted

pub returns-then-filled-labels : goal.returns-then-filled-labels
returns-then-filled-labels c =
    let user-here : c.args.from.user < users c.args.image.now = omega (arith, c.if-user-count.false, c.users-count.ensures.0) in
    part-inside _ _ user-here c.user_lines-filled.ensures (omega (arith, c.if-filled-labels.true, c.labels.ensures.0))

pub returns-then-after-count : goal.returns-then-after-count
returns-then-after-count c =
    let user-here : c.args.from.user < users c.args.image.now = omega (arith, c.if-user-count.false, c.users-count.ensures.0) in
    part-user _ _ user-here c.user_lines-filled.ensures (omega (arith, c.if-filled-labels.false, c.labels.ensures.0))

pub returns-else-after-count : goal.returns-else-after-count
returns-else-after-count c =
    let user-here : c.args.from.user < users c.args.image.now = omega (arith, c.if-user-count.false, c.users-count.ensures.0) in
    part-last _ _ user-here c.user_lines-filled.ensures (omega (arith, c.if-filled-labels.false, c.labels.ensures.0))
    (omega (arith, c.if-after-count.false, c.users-count.ensures.0))
