-- The parts of the image that a move writes, as code writes them one after the other.
use Rattle.std.specs.Prelude.{ℕ, ◌-◌, List, take, drop}
use Rattle.header.specs.declared.layout.Kind.{Kind}
use Rattle.header.specs.Layout.{users, labels, kind_byte, capacity_of, count_of, blocks_for}
use Rattle.writing.specs.Laid.{kind_blocks, header_block}
use Rattle.moves.specs.declared.target.Move.{Move}
use Rattle.moves.specs.Moved.{edition_after, new_records, new_counts}

-- the counts as they were
abbrev pub new_header : Move → List ℕ → List ℕ
new_header move im = header_block (new_counts move im) (users im) (labels im)

-- the records of a kind from place `from` up to `to`
abbrev pub new_run : Move → List ℕ → Kind → ℕ → ℕ → List (List ℕ)
new_run move im kind from to = take (to - from) (drop from (new_records move im kind))

-- how many records a block of the kind holds, how many blocks the kind needs, and all of them, the first at that place
abbrev pub new_capacity : Move → Kind → ℕ
new_capacity move kind = capacity_of (edition_after move) kind

abbrev pub new_blocks : Move → List ℕ → Kind → ℕ
new_blocks move im kind = blocks_for (new_capacity move kind) (count_of im kind)

abbrev pub new_kind : Move → List ℕ → Kind → ℕ → List ℕ
new_kind move im kind place = kind_blocks (kind_byte kind) (new_capacity move kind) (new_blocks move im kind) place (new_records move im kind)
