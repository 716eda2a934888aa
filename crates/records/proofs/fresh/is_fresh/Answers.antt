use Rattle.std.proofs.Common.{ℕ, ◌-◌, List, sym, ap, ◌∙◌}
use Rattle.fields.specs.Scan.{first_bad}
use Rattle.records.specs.Fields.{component_name}
use Rattle.records.specs.Rules.{record_in, other_name}
use Rattle.records.specs.Fresh.{name_key, marked, components_in}
use Rattle.records.proofs.Marks.{marked_next, new-unmarked}
use Rattle.records.proofs.Parts.{fresh-by}
use Rattle.records.proofs.fresh.is_fresh.Goals as goal

pub returns-then-not-mark : goal.returns-then-not-mark
returns-then-not-mark c =
    let is = c.requires.rec_value.0 in
    let unset = sym (c.mark.ensures.value ∙ ap (λ (rec : List ℕ). marked c.args.seen.now (name_key rec)) is) ∙ c.if-not-mark.true in
    record {
      value = sym (new-unmarked _ _ _ _ c.requires.whole.1.0 c.requires.names_kept.0 c.requires.names_kept.1 unset);
      marked_from = marked_next _ _ _ _ _ c.requires.names_kept.1 (rw is at c.mark.ensures.marked_too);
    }

pub returns : goal.returns
returns c =
    let a = c.args in
    let records = components_in a.source a.records.now in
    let is = c.requires.rec_value.0 in
    let found = c.first_same.ensures
    ∙ ap (λ (rec : List ℕ). first_bad (λ j. other_name (component_name rec) (record_in records j)) (a.i - a.start) a.start) is in
    record {
      value = fresh-by records a.i _ _ c.requires.whole.1.0 found;
      marked_from = marked_next _ _ _ _ _ c.requires.names_kept.1 (rw is at c.mark.ensures.marked_too);
    }
