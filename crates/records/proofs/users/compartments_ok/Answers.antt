use Rattle.std.proofs.Common.{◌≡◌, true, false, ◌∙◌, ap₂}
use Rattle.sets.specs.Sets.{union, intersection, within, all_below}
use Rattle.records.specs.Fields.{read_compartments, write_compartments, default_compartments}
use Rattle.records.proofs.SetWords.{compartments-by}
use Rattle.records.proofs.users.compartments_ok.Goals as goal

pub returns-then-not-within : goal.returns-then-not-within
returns-then-not-within c =
    let rec = c.args.rec.now in
    let count = c.args.existing.counts.compartments in
    let read : within (read_compartments rec) (all_below count) ≡ false = cc in
    rw (← compartments-by rec count, read)

pub returns-then-not-within-2 : goal.returns-then-not-within-2
returns-then-not-within-2 c =
    let rec = c.args.rec.now in
    let count = c.args.existing.counts.compartments in
    let read : within (read_compartments rec) (all_below count) ≡ true = cc in
    let both : within (union (write_compartments rec) (default_compartments rec)) (read_compartments rec) ≡ false = cc in
    rw (← compartments-by rec count, read, both)

pub returns : goal.returns
returns c =
    let rec = c.args.rec.now in
    let count = c.args.existing.counts.compartments in
    let read : within (read_compartments rec) (all_below count) ≡ true = cc in
    let both : within (union (write_compartments rec) (default_compartments rec)) (read_compartments rec) ≡ true = cc in
    let rest = c.intersection.ensures ∙ ap₂ intersection c.number8-default.ensures c.number8-write.ensures in
    let row = c.within-3.ensures ∙ ap₂ within c.number8-row.ensures rest in
    row ∙ rw (← compartments-by rec count, read, both)
