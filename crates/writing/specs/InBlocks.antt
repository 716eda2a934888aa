-- Request R-1: how a fault of records that are lent is told of the image that is laid out from them. The writer names a record by its place among
-- those lent, the check of an image by its block and its place there.
use Rattle.std.specs.Prelude.{List, ℕ, Ok, Err}
use Rattle.refusals.specs.Answers.{Checked}
use Rattle.refusals.specs.declared.Refusal.TheVariants.{ImageLayout, ParentRing}
use Rattle.header.specs.Layout.{shape_of, record_block, record_slot}
use Rattle.image.specs.Exactly.{record_refusal}
use Rattle.writing.specs.declared.answers.LentFault.TheVariants.{Layout, Record, Ring}
use Rattle.writing.specs.Lent.{LentCheck}

-- 32 to 34 at the block in which the record of that place stands, and its place there; 35 at the same group. 31 is told of no image that is laid out
-- from whole records within their limits
abbrev pub in_blocks : List ℕ → LentCheck → Checked
in_blocks im (Ok sound) = Ok tt
in_blocks im (Err Layout) = Err ImageLayout
in_blocks im (Err (Record kind i)) = Err (record_refusal kind (record_block (shape_of im kind) i) (record_slot (shape_of im kind) i))
in_blocks im (Err (Ring g)) = Err (ParentRing g)
