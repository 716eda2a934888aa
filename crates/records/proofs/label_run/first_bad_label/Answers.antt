use Rattle.std.proofs.Common.{◌≡◌, ℕ, ◌/◌, ◌%◌, ◌≤◌, length, sym, ap, ◌∙◌, subst}
use Rattle.fields.specs.Scan.{first_bad}
use Rattle.header.specs.declared.layout.Kind.TheVariants.{Label}
use Rattle.header.proofs.Editions.{size-least}
use Rattle.records.specs.LabelRuns.{run_after, tag_limited, TagsRise}
use Rattle.records.proofs.LabelTests.{searched, passed-inside, passed-rise}
use Rattle.records.proofs.label_run.first_bad_label.Goals as goal

pub first_above-requires : goal.first_above-requires
first_above-requires c =
    let whole_run : length c.args.run.now % c.size-size.result ≡ 0 = rw c.size-size.ensures c.requires.edition_len.0 in
    let a = c.args in
    let n = a.existing.counts in
    let size = c.size-size.result in
    let before = c.tag_before-before.result in
    let least : 24 ≤ size = rw c.size-size.ensures (size-least n.edition Label) in
    let found = c.first_wrong-n.ensures in
    record {
      le_size = (least, rw found (passed-inside n size before a.run.now whole_run));
      tags_rise = subst (TagsRise size a.run.now) (sym found) (passed-rise n size before a.run.now (length a.run.now / size));
    }

pub returns : goal.returns
returns c =
    let a = c.args in
    let n = a.existing.counts in
    let run = a.run.now in
    let size = c.size-size.result in
    c.first_above.ensures ∙ ap (λ (m : ℕ). first_bad (tag_limited size run) m 0) c.first_wrong-n.ensures
    ∙ ap (λ (t : ℕ). first_bad (tag_limited size run) (first_bad (run_after n size t run) (length run / size) 0) 0) c.tag_before-before.ensures
    ∙ searched n c.requires.exist.1 size a.k c.size-size.ensures a.previous.now run
