use mathlib.Core.Path.{refl, sym, ◌∙◌}
use native.Mathlib.Omega.{arith}
use Rattle.header.proofs.Inside.{header-inside}
use Rattle.image.proofs.Turns.{search-start, search-past, search-after, search-found, search-before, search-end}
use Rattle.image.proofs.given.search_tag.Goals as goal

pub shape_of-shape-requires : goal.shape_of-shape-requires
shape_of-shape-requires c = header-inside _ c.requires.fitted

pub loop-left-init : goal.loop-left-init
loop-left-init c = search-start _ _ _ c.shape_of-shape.ensures

pub loop-left-preserved-then-found-tag : goal.loop-left-preserved-then-found-tag
loop-left-preserved-then-found-tag c =
    search-after _ _ _ _ _ _ c.loop-left.invariant c.loop-left-test.true refl c.if-middle-count.true
    (rw (← c.tag_at-found.ensures) c.if-found-tag.true)

pub returns-then-found-tag-2 : goal.returns-then-found-tag-2
returns-then-found-tag-2 c =
    search-found _ _ _ _ _ _ c.loop-left.invariant c.loop-left-test.true refl c.if-middle-count.true
    (sym c.tag_at-found.ensures ∙ c.if-found-tag-2.true)

pub loop-left-preserved-else-found-tag-2 : goal.loop-left-preserved-else-found-tag-2
loop-left-preserved-else-found-tag-2 c =
    search-before _ _ _ _ _ _ c.loop-left.invariant c.loop-left-test.true refl c.if-middle-count.true
    (rw (← c.tag_at-found.ensures) (omega arith))

pub loop-left-preserved : goal.loop-left-preserved
loop-left-preserved c =
    search-past _ _ _ _ _ _ c.loop-left.invariant c.loop-left-test.true refl c.if-middle-count.false

pub returns : goal.returns
returns c = search-end _ _ _ _ _ c.loop-left.invariant c.loop-left-test.false
