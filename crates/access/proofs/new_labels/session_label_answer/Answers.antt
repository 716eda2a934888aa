use Rattle.access.proofs.Answers.{level-refused, compartments-refused, groups-refused, outside-refused, label-accepted}
use Rattle.access.proofs.new_labels.session_label_answer.Goals as goal

pub returns-then-not-level_ok : goal.returns-then-not-level_ok
returns-then-not-level_ok c =
    level-refused _ _ _ _ _ c.record_part-rec.ensures.0 _ c.level_ok.ensures c.if-not-level_ok.true

pub returns-then-not-compartments_ok : goal.returns-then-not-compartments_ok
returns-then-not-compartments_ok c =
    compartments-refused _ _ _ _ _ c.record_part-rec.ensures.0 _ c.level_ok.ensures c.if-not-level_ok.false
    _ c.compartments_ok.ensures c.if-not-compartments_ok.true

pub returns-then-not-groups_ok : goal.returns-then-not-groups_ok
returns-then-not-groups_ok c =
    groups-refused _ _ _ _ _ c.record_part-rec.ensures.0 _ c.level_ok.ensures c.if-not-level_ok.false
    _ c.compartments_ok.ensures c.if-not-compartments_ok.false
    _ c.groups_ok.ensures c.if-not-groups_ok.true

pub returns-then-not-row_inside : goal.returns-then-not-row_inside
returns-then-not-row_inside c =
    outside-refused _ _ _ _ _ c.record_part-rec.ensures.0 _ c.level_ok.ensures c.if-not-level_ok.false
    _ c.compartments_ok.ensures c.if-not-compartments_ok.false
    _ c.groups_ok.ensures c.if-not-groups_ok.false
    _ c.requires.1 _ c.row_inside.ensures c.if-not-row_inside.true

pub returns : goal.returns
returns c =
    label-accepted _ _ _ _ _ c.record_part-rec.ensures.0 _ c.level_ok.ensures c.if-not-level_ok.false
    _ c.compartments_ok.ensures c.if-not-compartments_ok.false
    _ c.groups_ok.ensures c.if-not-groups_ok.false
    _ c.requires.1 _ c.row_inside.ensures c.if-not-row_inside.false
