use Prim.Native.Nat.{◌≤◌, ◌<◌}
use native.Mathlib.Omega.{arith}
use Rattle.header.specs.Layout.{users}
use Rattle.header.proofs.Inside.{header-inside}
use Rattle.image.proofs.Accepted.{accepted-counted}
use Rattle.sessions.proofs.Accepting.{user-outside, label-refused, row-refused, row-accepted}
use Rattle.sessions.proofs.given.lent_accepted.Goals as goal

pub users-requires : goal.users-requires
users-requires c = header-inside _ (accepted-counted _ c.requires.0).fitted

pub returns-then-user-users : goal.returns-then-user-users
returns-then-user-users c =
    let outside : users c.args.image.now ≤ c.args.session.user = omega arith in
    user-outside _ _ c.requires.0 outside

pub rights_at-view-requires : goal.rights_at-view-requires
rights_at-view-requires c =
    let acc = c.requires.0 in
    (accepted-counted _ acc, (c.requires.1, omega arith))

pub session_label_answer-requires : goal.session_label_answer-requires
session_label_answer-requires c =
    let acc = c.requires.0 in
    ((accepted-counted _ acc, (c.requires.1, omega arith)), c.rights_at-view.ensures)

pub returns-in_default : goal.returns-in_default
returns-in_default c =
    let here : c.args.session.user < users c.args.image.now = omega arith in
    label-refused _ _ c.requires.0 here _ c.session_label_answer.ensures _ c.in_default.is

pub returns-in_default-row_label_answer : goal.returns-in_default-row_label_answer
returns-in_default-row_label_answer c =
    let here : c.args.session.user < users c.args.image.now = omega arith in
    row-refused _ _ c.requires.0 here _ c.session_label_answer.ensures c.in-Ok.is
    _ c.rights_at-view.ensures _ c.row_label_answer.ensures _ c.in_default-row_label_answer.is

pub returns : goal.returns
returns c =
    let here : c.args.session.user < users c.args.image.now = omega arith in (
      row-accepted _ _ c.requires.0 here _ c.session_label_answer.ensures c.in-Ok.is
          _ c.rights_at-view.ensures _ c.row_label_answer.ensures c.in-Ok-row_label_answer.is,
      (c.requires.1, c.rights_at-view.ensures),
    )
