use Rattle.header.specs.declared.layout.Kind.TheVariants.{Label, User}
use Rattle.header.specs.Layout.{edition_named, record_size}
use Rattle.writing.specs.Lent.{lent_layout_rule}
use Rattle.records.proofs.BlockRuns.{size-some}
use Rattle.records.proofs.Parts.{run-count}
use Rattle.writing.proofs.counting.layout_fits.Goals as goal

pub whole-requires-2 : goal.whole-requires-2
whole-requires-2 c =
    rw c.size-label_size.ensures (size-some c.edition_named-named.result Label)

pub whole-requires-3 : goal.whole-requires-3
whole-requires-3 c =
    rw c.size-user_size.ensures (size-some c.edition_named-named.result User)

pub nonzero_div-lent : goal.nonzero_div-lent
nonzero_div-lent c =
    rw c.size-user_size.ensures (size-some c.edition_named-named.result User)

pub nonzero_div-lent-2 : goal.nonzero_div-lent-2
nonzero_div-lent-2 c =
    rw c.size-label_size.ensures (size-some c.edition_named-named.result Label)

pub returns : goal.returns
unfolding lent_layout_rule
returns c =
    let a = c.args in
    let e = edition_named a.edition in
    rw (
      c.known_edition.ensures,
      c.known_profile.ensures,
      c.whole.ensures,
      c.whole-2.ensures,
      c.whole-3.ensures,
      c.counts_within.ensures,
      c.lent_counts-counts.ensures,
      c.size-user_size.ensures,
      c.size-label_size.ensures,
      c.edition_named-named.ensures,
      run-count (record_size e User) a.lent.users.now,
      run-count (record_size e Label) a.lent.labels.now,
    )
