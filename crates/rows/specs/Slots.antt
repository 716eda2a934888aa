-- The tags of which rows are handed out, each in a slot. A tag is looked for from its own slot on, up to a free one.
use Rattle.std.specs.Prelude.{ℕ, zero, suc, ◌*◌, ◌/◌, ◌%◌, ◌<◌, ◌≡◌, Bool, true, false, cond, List, ◌⊎◌, eqb, length, get_or}
use Rattle.header.specs.Layout.{label_record}
use Rattle.records.specs.Fields.{tag_of}
use Rattle.maps.specs.Map.{bit_of}
use Rattle.rows.specs.Table.{row_tag}
use Rattle.rows.specs.Mapped.{tag_mapped}

-- as many entries as the code has slots
abbrev pub slot_count : ℕ
slot_count = 2976

-- where a tag is looked for first: the product modulo 2 ^ 32 spreads the tags, and is scaled down to 2,880 slots
unfoldable pub own_slot : ℕ → ℕ
own_slot tag = tag * 2654435769 % 4294967296 * 2880 / 4294967296

-- ---- is a tag held
-- in one of the n slots from s on, before a free one; an entry is a tag, or 0 where the slot is free
unfoldable pub held_from : ℕ → List ℕ → ℕ → ℕ → Bool
held_from zero slots s tag = false
held_from (suc n) slots s tag =
    let entry = get_or slots s 0 in
    let later = held_from n slots (suc s) tag in
    cond (eqb entry 0) false (cond (eqb entry tag) true later)

-- in one of the 96 from its own on
abbrev pub held : List ℕ → ℕ → Bool
held slots tag = held_from 96 slots (own_slot tag) tag

-- the row's tag is
abbrev pub row_held : List ℕ → List ℕ → Bool
row_held slots row = held slots (row_tag row)

-- ---- what adding a tag leaves: it is held, and so is whatever was; each entry is as before, or is the tag
pub record Added (tag : ℕ) (before after : List ℕ) : Type 0 where
  pub long : length after ≡ length before
  pub there : held after tag ≡ true
  pub stays : (other : ℕ) → held before other ≡ true → held after other ≡ true
  pub entries : (k : ℕ) → (get_or after k 0 ≡ get_or before k 0) ⊎ (get_or after k 0 ≡ tag)

-- ---- what holds once the label records before p are gone through: only tags that are handed out are held, and those of these records are all held
pub record Holding (im bits : List ℕ) (p : ℕ) (slots : List ℕ) : Type 0 where
  pub long : length slots ≡ slot_count
  pub given : (k : ℕ) → (get_or slots k 0 ≡ 0 → ⊥) → tag_mapped im bits false (get_or slots k 0) ≡ true
  pub found : (q : ℕ) → q < p → bit_of bits q ≡ true → held slots (tag_of (label_record im q)) ≡ true

-- and at the end: the tags that are handed out are held, and no others
abbrev pub Complete : List ℕ → List ℕ → List ℕ → Type 0
Complete im bits slots = (tag : ℕ) → held slots tag ≡ tag_mapped im bits false tag
