-- When 31 to 35 are given, in the order of request R-2: what an image is like that is told each fault. proofs/Exactly.antt shows that a
-- fault is told exactly if the image is like that. 1 and 2 are aside: the length is right, and so are the check and the place of each block.
use Rattle.std.specs.Prelude.{ℕ, ◌+◌, ◌-◌, ◌≤◌, ◌<◌, ◌≡◌, true, false, ◌&&◌, List, ◌⊎◌}
use Rattle.blocks.specs.Blocks.{length_rule, block_count, block_rule}
use Rattle.header.specs.Layout.{groups, users, blocks_needed, shape_of, record_block, record_slot, contents_of}
use Rattle.header.specs.Header.{header_rule, fit_rule}
use Rattle.header.specs.declared.layout.Kind.{Kind}
use Rattle.header.specs.declared.layout.Kind.TheVariants.{Component, Label, User}
use Rattle.records.specs.Rules.{layout_rule, record_rule, content_rule}
use Rattle.hierarchy.specs.Below.{ends_rule, group_sets_rule}
use Rattle.refusals.specs.declared.Refusal.{Refusal}
use Rattle.refusals.specs.declared.Refusal.TheVariants.{ComponentRecord, LabelRecord, UserRecord}
use Rattle.refusals.specs.Refusals.{number_of}

-- neither 1 nor 2 is given
pub record Framed (im : List ℕ) : Type 0 where
  pub length : length_rule im ≡ true
  pub blocks : (b : ℕ) → b < block_count im → block_rule im b ≡ true

-- the header is at fault, or the length is unfit for its counts
abbrev pub HeaderAtFault : List ℕ → Type 0
HeaderAtFault im = (header_rule im && fit_rule im) ≡ false

-- no block lower than b has a fault, neither the header nor one after it: `content_rule` is that the layout is right and so is every record
pub record SoundBefore (im : List ℕ) (b : ℕ) : Type 0 where
  pub header : (header_rule im && fit_rule im) ≡ true
  pub contents : (a : ℕ) → 1 ≤ a → a < b → content_rule im a ≡ true

-- 31 for a block after the header: no lower block has a fault, and the layout of b is at fault
pub record LayoutAtFault (im : List ℕ) (b : ℕ) : Type 0 where
  pub after : 1 ≤ b
  pub inside : b < blocks_needed im
  pub lower : SoundBefore im b
  pub fault : layout_rule im b ≡ false

-- 32, 33 or 34 by the kind: no lower block has a fault, the layout of b is sound, and r is its lowest record at fault
pub record RecordAtFault (im : List ℕ) (kind : Kind) (b r : ℕ) : Type 0 where
  pub after : 1 ≤ b
  pub inside : b < blocks_needed im
  pub lower : SoundBefore im b
  pub layout : layout_rule im b ≡ true
  pub holds : (contents_of im b).kind ≡ kind
  pub among : r < (contents_of im b).to - (contents_of im b).from
  pub earlier : (q : ℕ) → q < r → record_rule im kind ((contents_of im b).from + q) ≡ true
  pub fault : record_rule im kind ((contents_of im b).from + r) ≡ false

-- 35: no block has a fault, and g is the lowest group whose parents never end
pub record RingAtFault (im : List ℕ) (g : ℕ) : Type 0 where
  pub blocks : SoundBefore im (blocks_needed im)
  pub among : g < groups im
  pub earlier : (h : ℕ) → h < g → ends_rule im h ≡ true
  pub fault : ends_rule im g ≡ false

-- 34, last: no block has a fault, the parents of every group end, and u is the lowest user who breaks the rule of group sets
pub record BelowAtFault (im : List ℕ) (u : ℕ) : Type 0 where
  pub blocks : SoundBefore im (blocks_needed im)
  pub rings : (g : ℕ) → g < groups im → ends_rule im g ≡ true
  pub among : u < users im
  pub earlier : (v : ℕ) → v < u → group_sets_rule im v ≡ true
  pub fault : group_sets_rule im u ≡ false

-- the record of that user is the r-th of block b
pub record UserAt (im : List ℕ) (u b r : ℕ) : Type 0 where
  pub block : record_block (shape_of im User) u ≡ b
  pub slot : record_slot (shape_of im User) u ≡ r

-- 32, 33 or 34 at block b and record r: by a record's own rules, or, for a user, by the rule of group sets
abbrev pub RecordTold : List ℕ → Kind → ℕ → ℕ → Type 0
RecordTold im kind b r = RecordAtFault im kind b r ⊎ ((kind ≡ User) × ((u : ℕ) × (BelowAtFault im u × UserAt im u b r)))

-- the refusal for a record of a kind
abbrev pub record_refusal : Kind → ℕ → ℕ → Refusal
record_refusal Component b r = ComponentRecord b r
record_refusal Label b r = LabelRecord b r
record_refusal User b r = UserRecord b r

-- its number, wherever the record stands
abbrev pub record_number : Kind → ℕ
record_number kind = number_of (record_refusal kind 0 0)
