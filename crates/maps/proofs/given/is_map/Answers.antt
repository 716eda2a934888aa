use mathlib.Core.Path.{sym, ◌∙◌}
use Rattle.fields.proofs.Laws.{same_length}
use Rattle.header.proofs.Inside.{header-inside}
use Rattle.access.specs.Rights.{rights_of}
use Rattle.maps.specs.Map.{map_length, map_rule}
use Rattle.maps.proofs.Bits.{map-long}
use Rattle.maps.proofs.EveryLabel.{every-label}
use Rattle.maps.proofs.given.is_map.Goals as goal

pub returns-then-bits-count : goal.returns-then-bits-count
unfolding map_rule
returns-then-bits-count c = same_length _ _ (λ e. c.if-bits-count.true (e ∙ map-long _ _ ∙ sym c.map_length-count.ensures.0))

pub labels-requires : goal.labels-requires
labels-requires c = header-inside _ c.requires.fitted

pub is_whole-requires : goal.is_whole-requires
unfolding map_length
is_whole-requires c =
    rw c.labels.ensures.0 (c.if-bits-count.false ∙ c.map_length-count.ensures.0)

pub returns-then-whole : goal.returns-then-whole
unfolding map_rule
returns-then-whole c =
    let a = c.args in
    let whole = every-label a.image.now (rights_of a.view) (sym c.reads_all-whole.ensures ∙ c.if-whole.true) in
    rw (whole, ← c.labels.ensures.0) c.is_whole.ensures

pub returns : goal.returns
unfolding map_rule
returns c = c.judge_asked.ensures
