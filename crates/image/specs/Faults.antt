-- The faults of an image and the order in which they are told. Every fault has a key, and the one with the lowest key is told: this is
-- document 01's order of 1, 2 and the other image rules, and request R-2's order among the latter.
use Rattle.refusals.specs.Answers.{Checked}
use Rattle.std.specs.Prelude.{ℕ, zero, suc, ◌+◌, ◌-◌, Bool, cond, ◌&&◌, Result, Ok, Err, ⊤}
use mathlib.Core.List.{List, [], ◌∷◌, ◌++◌, flatten}
use Rattle.fields.specs.Names.{name_before}
use Rattle.fields.specs.Scan.{list_from}
use Rattle.blocks.specs.Blocks.{length_rule, block_count, block_rule}
use Rattle.header.specs.Layout.{groups, users, blocks_needed, shape_of, record_block, record_slot, contents_of}
use Rattle.header.specs.Header.{header_rule, fit_rule}
use Rattle.header.specs.declared.layout.Kind.{Kind}
use Rattle.header.specs.declared.layout.Kind.TheVariants as kind
use Rattle.records.specs.Rules.{layout_rule, record_rule}
use Rattle.hierarchy.specs.Below.{ends_rule, group_sets_rule}
use Rattle.refusals.specs.declared.Refusal.{Refusal}
use Rattle.refusals.specs.declared.Refusal.TheVariants.{ImageLength, BlockCheck, ImageLayout, ComponentRecord, LabelRecord, UserRecord, ParentRing}
use Rattle.image.specs.declared.faults.Fault.{Fault}
use Rattle.image.specs.declared.faults.Fault.TheVariants.{Length, Block, Layout, Component, Label, User, Ring, Below}

-- no rule is broken, or the fault that is found
abbrev pub Inspection : Type 0
Inspection = Result ⊤ Fault

abbrev pub no_fault : Inspection
no_fault = Ok tt

-- that fault where there is one, else what is found after it
abbrev pub fault_where : Bool → Fault → Inspection → Inspection
fault_where found fault rest = cond found (Err fault) rest

-- ---- how a fault is told
-- 1; 2 with the block; 31 for the header, a length unfit for its counts, and a block's kind, record count or bytes outside records; 32 for a
-- component, 33 for a label and 34 for a user, with the record's block and its place there; 35 with the group; a user's rule of group sets as 34
abbrev pub refusal_of : Fault → Refusal
refusal_of Length = ImageLength
refusal_of (Block b) = BlockCheck b
refusal_of (Layout b) = ImageLayout
refusal_of (Component b r) = ComponentRecord b r
refusal_of (Label b r) = LabelRecord b r
refusal_of (User b r) = UserRecord b r
refusal_of (Ring g) = ParentRing g
refusal_of (Below b r) = UserRecord b r

-- accepted where no rule is broken
abbrev pub shown_as : Inspection → Checked
shown_as (Ok sound) = Ok tt
shown_as (Err fault) = Err (refusal_of fault)

-- ---- the order
-- 1 first, then 2 by block. Then 31 to 34 by block: in a block its layout, which is 31, and then its records in order. Then 35 by group.
-- A user's rule of group sets comes last, by user
abbrev pub key_of : Fault → List ℕ
key_of Length = 1 ∷ []
key_of (Block b) = 2 ∷ b ∷ []
key_of (Layout b) = 3 ∷ b ∷ []
key_of (Component b r) = 3 ∷ b ∷ r ∷ []
key_of (Label b r) = 3 ∷ b ∷ r ∷ []
key_of (User b r) = 3 ∷ b ∷ r ∷ []
key_of (Ring g) = 4 ∷ g ∷ []
key_of (Below b r) = 5 ∷ b ∷ r ∷ []

-- keys are compared as names are: number by number; of two of which one begins the other, the shorter is lower
abbrev pub key_before : List ℕ → List ℕ → Bool
key_before = name_before

-- a fault and what is found after it: the one of two faults that has the lower key; of equal keys the first
abbrev pub lower : Fault → Inspection → Inspection
lower f (Ok sound) = Err f
lower f (Err g) = fault_where (key_before (key_of g) (key_of f)) g (Err f)

-- the one of all that has the lowest key; no fault where there is none
unfoldable pub lowest : List Fault → Inspection
lowest [] = no_fault
lowest (f ∷ fs) = lower f (lowest fs)

-- the fault is one of those listed
pub data Among (f : Fault) : List Fault → Type 0 where
  here : {fs : List Fault} → Among f (f ∷ fs)
  later : {g : Fault} {fs : List Fault} → Among f fs → Among f (g ∷ fs)

-- ---- the faults of an image
-- that one fault, where the rule fails
abbrev pub fault_unless : Bool → Fault → List Fault
fault_unless rule fault = cond rule [] (fault ∷ [])

-- the faults at those of the n places from k on where the rule fails
unfoldable pub faults_at : (ℕ → Bool) → (ℕ → Fault) → ℕ → ℕ → List Fault
faults_at rule fault zero k = []
faults_at rule fault (suc n) k = fault_unless (rule k) (fault k) ++ faults_at rule fault n (suc k)

-- a record's fault names its block and its place there
abbrev pub record_fault : Kind → ℕ → ℕ → Fault
record_fault kind.Component b r = Component b r
record_fault kind.Label b r = Label b r
record_fault kind.User b r = User b r

-- of a block after the header: its kind, record count and bytes outside records; and each of its records
unfoldable pub content_faults : List ℕ → ℕ → List Fault
content_faults im b =
    let held = contents_of im b in
    fault_unless (layout_rule im b) (Layout b)
    ++ faults_at (λ r. record_rule im held.kind (held.from + r)) (record_fault held.kind b) (held.to - held.from) 0

-- the fault of the user at place u whose groups break the rule of group sets: the block and the place there of the user's record
abbrev pub below_fault : List ℕ → ℕ → Fault
below_fault im u = Below (record_block (shape_of im kind.User) u) (record_slot (shape_of im kind.User) u)

-- all places where a rule fails. The header and a length unfit for its counts count for block 0; nothing after block 0 is told then, whatever
-- the counts put there, since its key is the lowest of those that begin with 3
unfoldable pub faults_of : List ℕ → List Fault
faults_of im =
    flatten
    (fault_unless (length_rule im) Length
    ∷ faults_at (block_rule im) Block (block_count im) 0
    ∷ fault_unless (header_rule im && fit_rule im) (Layout 0)
    ∷ flatten (list_from (content_faults im) (blocks_needed im - 1) 1)
    ∷ faults_at (ends_rule im) Ring (groups im) 0
    ∷ faults_at (group_sets_rule im) (below_fault im) (users im) 0
    ∷ [])
