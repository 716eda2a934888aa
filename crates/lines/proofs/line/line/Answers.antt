use native.Mathlib.Omega.{arith}
use Rattle.image.proofs.Accepted.{accepted-counted}
use Rattle.lines.proofs.Joined.{room-name, room-tag, room-ending, written-line}
use Rattle.lines.proofs.line.line.Goals as goal

pub name-name-requires : goal.name-name-requires
name-name-requires c =
    let pre = c.requires.at_opening in
    (accepted-counted _ pre.0.accepted, omega (arith, pre.0.user))

pub label_at-row-requires : goal.label_at-row-requires
label_at-row-requires c =
    let pre = c.requires.at_opening in
    (accepted-counted _ pre.0.accepted, omega (arith, pre.1))

pub put-named-requires : goal.put-named-requires
put-named-requires c =
    let pre = c.requires.at_opening in
    room-name _ pre.0.accepted _ _ pre.0.user pre.1 c.args.buffer.now _ c.requires.at_in_bounds c.name-name.ensures

pub put_tag-tagged-requires : goal.put_tag-tagged-requires
put_tag-tagged-requires c =
    let pre = c.requires.at_opening in
    record {
      counted = (accepted-counted _ pre.0.accepted, pre.1);
      k_in_bounds =
          room-tag _ pre.0.accepted _ _ pre.0.user pre.1 _ _ c.requires.at_in_bounds c.name-name.ensures c.put-named.ensures;
    }

pub put_verdicts-requires : goal.put_verdicts-requires
put_verdicts-requires c =
    let pre = c.requires.at_opening in
    room-ending _ pre.0.accepted _ _ pre.0.user pre.1 _ _ c.requires.at_in_bounds c.name-name.ensures c.put-named.ensures
    c.put_tag-tagged.ensures

pub returns : goal.returns
returns c =
    let pre = c.requires.at_opening in
    written-line _ pre.0.accepted _ _ pre.0.user pre.1 _ _ c.requires.at_in_bounds c.name-name.ensures c.put-named.ensures
    c.put_tag-tagged.ensures pre.0.view c.label_at-row.ensures c.put_verdicts.ensures
