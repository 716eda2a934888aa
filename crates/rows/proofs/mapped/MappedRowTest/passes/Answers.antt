use Prim.Native.Nat.{◌≤◌, ◌<◌}
use mathlib.Core.Path.{◌≡◌, sym, ap, ◌∙◌}
use native.Mathlib.Omega.{arith}
use borrow.Author.Tests.{lt-ltb, le-ltb}
use Rattle.header.specs.Layout.{labels}
use Rattle.header.proofs.Inside.{header-inside}
use Rattle.image.specs.Lookup.{label_of_tag}
use Rattle.image.proofs.Accepted.{accepted-counted}
use Rattle.access.specs.Verdicts.{known_tag}
use Rattle.maps.specs.Map.{bit_of}
use Rattle.rows.specs.Table.{row_tag}
use Rattle.rows.specs.Mapped.{tag_mapped}
use Rattle.rows.proofs.mapped.MappedRowTest.passes.Goals as goal

pub labels-requires : goal.labels-requires
labels-requires c =
    header-inside _ (accepted-counted _ c.args.self.now.mapping.accepted).fitted

pub returns-then-p-labels : goal.returns-then-p-labels
unfolding tag_mapped known_tag
returns-then-p-labels c =
    let a = c.args in
    let p : label_of_tag a.self.now.image.now (row_tag a.row.now) ≡ c.label_of_tag-p.result =
    sym (c.label_of_tag-p.ensures ∙ ap (label_of_tag a.self.now.image.now) c.number4.ensures) in
    let h : label_of_tag a.self.now.image.now (row_tag a.row.now) < labels a.self.now.image.now =
    omega (arith, p, c.labels.ensures.0, c.if-p-labels.true) in
    rw (lt-ltb _ _ h) (c.bit_of.ensures ∙ ap (bit_of a.self.now.bits.now) (sym p))

pub returns : goal.returns
unfolding tag_mapped known_tag
returns c =
    let a = c.args in
    let p : label_of_tag a.self.now.image.now (row_tag a.row.now) ≡ c.label_of_tag-p.result =
    sym (c.label_of_tag-p.ensures ∙ ap (label_of_tag a.self.now.image.now) c.number4.ensures) in
    let h : labels a.self.now.image.now ≤ label_of_tag a.self.now.image.now (row_tag a.row.now) =
    omega (arith, p, c.labels.ensures.0, c.if-p-labels.false) in
    rw (le-ltb _ _ h)
