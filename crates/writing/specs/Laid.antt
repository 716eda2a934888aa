-- An image laid out from records: the header, then each kind packed into blocks, with their heads, unused bytes and sums. A record is a list
-- of as many bytes as its kind has in the edition.
use Rattle.std.specs.Prelude.{ℕ, zero, suc, ◌+◌, ◌-◌, ◌/◌, ◌%◌, ◌≤◌, ◌<◌, ◌≡◌, length, get_or, take, drop, replicate}
use mathlib.Core.List.{List, [], ◌∷◌, ◌++◌, flatten}
use Rattle.blocks.specs.Blocks.{sum_a, sum_b}
use Rattle.header.specs.declared.edition.Edition.{Edition}
use Rattle.header.specs.declared.edition.Edition.TheVariants.{One, Two}
use Rattle.header.specs.declared.profile.Profile.{Profile}
use Rattle.header.specs.declared.profile.Profile.TheVariants.{Tree, Release}
use Rattle.header.specs.declared.layout.Kind.{Kind}
use Rattle.header.specs.declared.layout.Kind.TheVariants.{Component, Label, User}
use Rattle.header.specs.declared.counts.Counts.{Counts}
use Rattle.header.specs.Layout.{kind_byte, record_size, capacity_of, blocks_for}
use Rattle.header.specs.Limits.{limits_in}

-- ---- a block
-- a number below 65,536 as two bytes, the low one first
abbrev pub bytes2 : ℕ → List ℕ
bytes2 x = x % 256 ∷ x / 256 ∷ []

-- its kind, its number of records and its place
abbrev pub head_of : ℕ → ℕ → ℕ → List ℕ
head_of kind count place = kind ∷ count ∷ bytes2 place

abbrev pub zeros : ℕ → List ℕ
zeros n = replicate n 0

-- the bytes 0..509: those that are used, then zeros
unfoldable pub body_of : List ℕ → List ℕ
body_of used = used ++ zeros (510 - length used)

-- what follows the used bytes: zeros, and the two sums in bytes 510 and 511
unfoldable pub end_of : List ℕ → List ℕ
end_of used = zeros (510 - length used) ++ sum_a 0 (body_of used) ∷ sum_b 0 0 (body_of used) ∷ []

-- a block whose used bytes are those
unfoldable pub sealed : List ℕ → List ℕ
sealed used = used ++ end_of used

-- a block of that kind at that place, with those records, one after the other
unfoldable pub block_of : ℕ → ℕ → List (List ℕ) → List ℕ
block_of kind place records = sealed (head_of kind (length records) place ++ flatten records)

-- ---- records of that many bytes each
abbrev pub Sized : ℕ → List (List ℕ) → Type 0
Sized size records = (i : ℕ) → i < length records → length (get_or records i []) ≡ size

-- ---- a kind: n blocks from `place` on, each but the last with as many records as it holds
unfoldable pub kind_blocks : ℕ → ℕ → ℕ → ℕ → List (List ℕ) → List ℕ
kind_blocks kind capacity zero place records = []
kind_blocks kind capacity (suc n) place records =
    block_of kind place (take capacity records) ++ kind_blocks kind capacity n (suc place) (drop capacity records)

-- ---- the header: edition, levels, compartments, groups, users, labels, profile; in edition 2 the groups stand in bytes 14 and 15
abbrev pub profile_byte : Profile → ℕ
profile_byte Tree = 0
profile_byte Release = 1

abbrev pub header_fields : Edition → ℕ → ℕ → ℕ → ℕ → ℕ → ℕ → List ℕ
header_fields One profile levels compartments groups users labels =
    1 ∷ levels ∷ compartments ∷ groups ∷ bytes2 users ++ bytes2 labels ++ profile ∷ []
header_fields Two profile levels compartments groups users labels =
    2 ∷ levels ∷ compartments ∷ 0 ∷ bytes2 users ++ bytes2 labels ++ profile ∷ 0 ∷ bytes2 groups

-- the header's used bytes, and the header
abbrev pub header_used : Counts → ℕ → ℕ → List ℕ
header_used n users labels = head_of 80 0 0 ++ header_fields n.edition (profile_byte n.profile) n.levels n.compartments n.groups users labels

unfoldable pub header_block : Counts → ℕ → ℕ → List ℕ
header_block n users labels = sealed (header_used n users labels)

-- the counts of that edition and profile, with so many components of each class
abbrev pub counts_from : Edition → Profile → ℕ → ℕ → ℕ → Counts
counts_from edition profile levels compartments groups =
    record { edition = edition; profile = profile; levels = levels; compartments = compartments; groups = groups }

-- ---- an image: of that edition and profile, with those numbers of levels, compartments and groups, and the records of each kind
-- how many blocks a kind's records need, and the first of them
abbrev pub blocks_in : Counts → (Kind → List (List ℕ)) → Kind → ℕ
blocks_in n records kind = blocks_for (capacity_of n.edition kind) (length (records kind))

abbrev pub first_in : Counts → (Kind → List (List ℕ)) → Kind → ℕ
first_in n records Component = 1
first_in n records Label = 1 + blocks_in n records Component
first_in n records User = 1 + blocks_in n records Component + blocks_in n records Label

abbrev pub kind_laid : Counts → (Kind → List (List ℕ)) → Kind → List ℕ
kind_laid n records kind =
    kind_blocks (kind_byte kind) (capacity_of n.edition kind) (blocks_in n records kind) (first_in n records kind) (records kind)

unfoldable pub image_of : Counts → (Kind → List (List ℕ)) → List ℕ
image_of n records =
    header_block n (length (records User)) (length (records Label))
    ++ kind_laid n records Component ++ kind_laid n records Label ++ kind_laid n records User

-- each record has its kind's size, and there are as many components as the classes have
pub record Fits (n : Counts) (records : Kind → List (List ℕ)) : Type 0 where
  pub sizes : (kind : Kind) → Sized (record_size n.edition kind) (records kind)
  pub components : length (records Component) ≡ n.levels + n.compartments + n.groups

-- no count is past its limit, and there is a level
pub record Limited (n : Counts) (users labels : ℕ) : Type 0 where
  pub levels_some : 1 ≤ n.levels
  pub levels_limit : n.levels ≤ (limits_in n.edition).levels
  pub compartments_limit : n.compartments ≤ (limits_in n.edition).compartments
  pub groups_limit : n.groups ≤ (limits_in n.edition).groups
  pub users_limit : users ≤ (limits_in n.edition).users
  pub labels_limit : labels ≤ (limits_in n.edition).labels
