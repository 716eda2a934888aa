use mathlib.Core.Path.{sym, ◌∙◌}
use Rattle.header.proofs.Inside.{header-inside}
use Rattle.access.specs.Rights.{rights_of}
use Rattle.maps.specs.Map.{map_length}
use Rattle.maps.proofs.EveryLabel.{every-label}
use Rattle.maps.proofs.given.put_map.Goals as goal

pub labels-requires : goal.labels-requires
labels-requires c = header-inside _ c.requires.0.fitted

pub put_whole-requires : goal.put_whole-requires
unfolding map_length
put_whole-requires c =
    (rw c.labels.ensures.0 c.map_length-count.ensures.0, rw c.map_length-count.ensures.0 c.requires.1)

pub returns-then-reads_all : goal.returns-then-reads_all
returns-then-reads_all c =
    let a = c.args in
    let whole = every-label a.image.now (rights_of a.view) (sym c.reads_all.ensures ∙ c.if-reads_all.true) in
    rw (whole, ← c.labels.ensures.0) c.put_whole.ensures

pub returns : goal.returns
returns c = c.put_asked.ensures
