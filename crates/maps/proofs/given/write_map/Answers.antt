use mathlib.Core.Path.{sym, ◌∙◌}
use Rattle.buffers.proofs.FrontWritten.{answer-room, answer-done}
use Rattle.access.specs.Rights.{rights_of}
use Rattle.maps.specs.Map.{map_of}
use Rattle.maps.proofs.Bits.{map-long}
use Rattle.maps.proofs.given.write_map.Goals as goal

pub returns-then-buffer-map_length : goal.returns-then-buffer-map_length
returns-then-buffer-map_length c =
    let a = c.args in
    let long = c.map_length.ensures.0 ∙ sym (map-long a.image.now (rights_of a.view)) in
    answer-room _ (map_of a.image.now (rights_of a.view)) _ long c.if-buffer-map_length.true

pub returns : goal.returns
returns c =
    let a = c.args in
    let long = c.map_length.ensures.0 ∙ sym (map-long a.image.now (rights_of a.view)) in
    answer-done _ _ _ long c.if-buffer-map_length.false c.put_map-length.ensures
