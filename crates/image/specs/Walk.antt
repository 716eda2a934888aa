-- What the code finds, in the order in which it looks. No public call is told by these definitions: proofs/Told.antt shows that the fault
-- which is found is the one with the lowest key.
use Rattle.std.specs.Prelude.{ℕ, ◌+◌, ◌-◌, ◌≡◌, cond, ◌&&◌, List, ltb, Err}
use Rattle.fields.specs.Scan.{first_bad}
use Rattle.blocks.specs.Blocks.{length_rule, block_count, first_bad_block}
use Rattle.header.specs.declared.layout.Kind.{Kind}
use Rattle.header.specs.Layout.{groups, users, blocks_of, first_block, blocks_needed, contents_of}
use Rattle.header.specs.Header.{header_rule, fit_rule}
use Rattle.records.specs.Rules.{layout_rule, first_bad_record, content_rule}
use Rattle.hierarchy.specs.Below.{first_ring, first_bad_below, Tabled}
use Rattle.image.specs.declared.faults.Fault.{Fault}
use Rattle.image.specs.declared.faults.Fault.TheVariants.{Length, Block, Layout, Ring}
use Rattle.image.specs.Faults.{Inspection, no_fault, fault_where, record_fault, below_fault}

-- the lowest block after the header that breaks a rule; the number of blocks where none does
unfoldable pub first_bad_content : List ℕ → ℕ
first_bad_content im = first_bad (content_rule im) (blocks_needed im - 1) 1

-- of such a block: its layout, then its lowest bad record
unfoldable pub content_fault : List ℕ → ℕ → Fault
content_fault im b =
    let held = contents_of im b in
    cond (layout_rule im b) (record_fault held.kind b (first_bad_record im b - held.from)) (Layout b)

-- of the blocks from `from` up to `to`: the fault of the lowest with one
unfoldable pub range_fault : List ℕ → ℕ → ℕ → Inspection
range_fault im from to = let b = first_bad (content_rule im) (to - from) from in fault_where (ltb b to) (content_fault im b) no_fault

-- of the blocks of a kind, and of all blocks after the header
abbrev pub kind_fault : List ℕ → Kind → Inspection
kind_fault im kind = range_fault im (first_block im kind) (first_block im kind + blocks_of im kind)

abbrev pub contents_fault : List ℕ → Inspection
contents_fault im = range_fault im 1 (blocks_needed im)

-- of the groups: a ring of parents, a user's groups against below
abbrev pub group_fault : List ℕ → Inspection
group_fault im =
    fault_where (ltb (first_ring im) (groups im)) (Ring (first_ring im))
    (fault_where (ltb (first_bad_below im) (users im)) (below_fault im (first_bad_below im)) no_fault)

-- once header and length are sound: the lowest block's contents, then the groups
unfoldable pub counted_fault : List ℕ → Inspection
counted_fault im = fault_where (ltb (first_bad_content im) (blocks_needed im)) (content_fault im (first_bad_content im)) (group_fault im)

-- of all: the length; the lowest block whose check or place is wrong; the header and a length unfit for its counts; the rest
unfoldable pub found_fault : List ℕ → Inspection
found_fault im =
    cond (length_rule im)
    (fault_where (ltb (first_bad_block im) (block_count im)) (Block (first_bad_block im))
    (cond (header_rule im && fit_rule im) (counted_fault im) (Err (Layout 0))))
    (Err Length)

-- what is told is right; where there is no fault the table of groups is filled, for who asks on
pub record Tells (im table : List ℕ) (right told : Inspection) : Type 0 where
  pub same : told ≡ right
  pub filled : told ≡ no_fault → Tabled im table
