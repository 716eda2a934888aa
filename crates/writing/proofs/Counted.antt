-- What an image that is laid out tells of itself: its edition and counts are those that it was made from, and its length fits them. Assumes nothing.
use Prim.Native.Nat.{ℕ, ◌+◌, ◌*◌, ◌≤◌, ◌<◌}
use mathlib.Core.Path.{◌≡◌, refl, sym, ap, ap₂, ◌∙◌}
use mathlib.Core.Bool.{cond}
use mathlib.Core.List.{List}
use native.Mathlib.Nat.{zero-add}
use native.Mathlib.Omega.{arith}
use lib.Dec.{eqb}
use lib.ListN.{length, get_or-eq_default}
use Rattle.fields.specs.Bytes.{byte_at, number2}
use Rattle.fields.proofs.Laws.{part-byte}
use Rattle.blocks.specs.Blocks.{block_at}
use Rattle.header.specs.declared.edition.Edition.{Edition}
use Rattle.header.specs.declared.edition.Edition.TheVariants.{One, Two}
use Rattle.header.specs.declared.layout.Kind.{Kind}
use Rattle.header.specs.declared.layout.Kind.TheVariants.{Component, Label, User}
use Rattle.header.specs.declared.layout.Shape.{Shape}
use Rattle.header.specs.declared.profile.Profile.{Profile}
use Rattle.header.specs.declared.profile.Profile.TheVariants.{Tree, Release}
use Rattle.header.specs.declared.counts.Counts.{Counts}
use Rattle.header.specs.Layout.{edition_of, profile_of, by_edition, levels, compartments, groups, users, labels, components, counts_of}
use Rattle.header.specs.Layout.{record_size, capacity_of, blocks_for, count_of, blocks_of, first_block, blocks_needed, Fitted, shape_of}
use Rattle.writing.specs.Laid.{profile_byte, header_used, header_block, blocks_in, first_in, image_of, Fits}
use Rattle.writing.proofs.Sealed.{sealed-byte}
use Rattle.writing.proofs.HeaderFields.{Told, told}
use Rattle.writing.proofs.Placed.{header-fits, image-length, image-header}

-- the edition, from its byte
edition-of : (edition : Edition) → cond (eqb (by_edition edition 1 2) 2) Two One ≡ edition
edition-of One = refl
edition-of Two = refl

-- a byte of a block, as one of the image
pub block-byte : (im : List ℕ) (b i : ℕ) → i < 512 → byte_at im (512 * b + i) ≡ byte_at (block_at im b) i
unfolding block_at
block-byte im b i h = sym (part-byte im (512 * b) 512 i h)

profile-of : (profile : Profile) → cond (eqb (profile_byte profile) 1) Release Tree ≡ profile
profile-of Tree = refl
profile-of Release = refl

-- the shape of a kind
abbrev pub laid_shape : Counts → (Kind → List (List ℕ)) → Kind → Shape
laid_shape n records kind =
    record {
      first = first_in n records kind;
      size = record_size n.edition kind;
      capacity = capacity_of n.edition kind;
      count = length (records kind);
    }

module _ (n : Counts) (records : Kind → List (List ℕ)) (fits : Fits n records) where
  abbrev im : List ℕ
  im = image_of n records

  abbrev used : List ℕ
  used = header_used n (length (records User)) (length (records Label))

  -- ---- the header's bytes
  pub header-byte : (i : ℕ) → i < 510 → byte_at im i ≡ byte_at used i
  unfolding header_block
  header-byte i h =
      ap (byte_at im) (sym (zero-add i)) ∙ block-byte im 0 i (omega arith)
      ∙ ap (λ (s : List ℕ). byte_at s i) (image-header n records fits.sizes)
      ∙ sealed-byte used (header-fits n (length (records User)) (length (records Label))) i h

  pub header-unused : (i : ℕ) → length used ≤ i → i < 510 → byte_at im i ≡ 0
  header-unused i low high = header-byte i high ∙ get_or-eq_default used 0 low

  header-number : (i : ℕ) → i + 1 < 510 → number2 im i ≡ number2 used i
  unfolding number2
  header-number i h = ap₂ (λ (a b : ℕ). a + 256 * b) (header-byte i (omega arith)) (header-byte (i + 1) h)

  fields : Told (profile_byte n.profile) n.levels n.compartments n.groups (length (records User)) (length (records Label)) n.edition
  fields = told (profile_byte n.profile) n.levels n.compartments n.groups (length (records User)) (length (records Label)) n.edition

  -- ---- the counts
  pub edition-byte-is : byte_at im 4 ≡ by_edition n.edition 1 2
  edition-byte-is = header-byte 4 (omega arith) ∙ fields.edition-byte

  pub edition-is : edition_of im ≡ n.edition
  unfolding edition_of
  edition-is = ap (λ (x : ℕ). cond (eqb x 2) Two One) edition-byte-is ∙ edition-of n.edition

  pub profile-byte-is : byte_at im 12 ≡ profile_byte n.profile
  profile-byte-is = header-byte 12 (omega arith) ∙ fields.profile-byte

  pub profile-is : profile_of im ≡ n.profile
  unfolding profile_of
  profile-is = ap (λ (x : ℕ). cond (eqb x 1) Release Tree) profile-byte-is ∙ profile-of n.profile

  pub levels-is : levels im ≡ n.levels
  unfolding levels
  levels-is = header-byte 5 (omega arith) ∙ fields.levels-byte

  pub compartments-is : compartments im ≡ n.compartments
  unfolding compartments
  compartments-is = header-byte 6 (omega arith) ∙ fields.compartments-byte

  pub groups-is : groups im ≡ n.groups
  unfolding groups
  groups-is =
      ap (λ (e : Edition). by_edition e (byte_at im 7) (number2 im 14)) edition-is
      ∙ ap₂ (by_edition n.edition) (header-byte 7 (omega arith)) (header-number 14 (omega arith))
      ∙ fields.groups-bytes

  pub users-is : users im ≡ length (records User)
  unfolding users
  users-is = header-number 8 (omega arith) ∙ fields.users-bytes

  pub labels-is : labels im ≡ length (records Label)
  unfolding labels
  labels-is = header-number 10 (omega arith) ∙ fields.labels-bytes

  pub counts-are : counts_of im ≡ n
  counts-are = rw (edition-is, profile-is, levels-is, compartments-is, groups-is)

  pub count-is : (kind : Kind) → count_of im kind ≡ length (records kind)
  unfolding components
  count-is Component = rw (levels-is, compartments-is, groups-is) (sym fits.components)
  count-is Label = labels-is
  count-is User = users-is

  -- ---- the blocks
  pub blocks-are : (kind : Kind) → blocks_of im kind ≡ blocks_in n records kind
  blocks-are kind = ap₂ (λ (e : Edition) (k : ℕ). blocks_for (capacity_of e kind) k) edition-is (count-is kind)

  pub first-is : (kind : Kind) → first_block im kind ≡ first_in n records kind
  unfolding first_block
  first-is Component = refl
  first-is Label = ap (λ (k : ℕ). 1 + k) (blocks-are Component)
  first-is User = ap₂ (λ (k m : ℕ). 1 + k + m) (blocks-are Component) (blocks-are Label)

  pub needed-are : blocks_needed im ≡ 1 + blocks_in n records Component + blocks_in n records Label + blocks_in n records User
  unfolding blocks_needed first_block
  needed-are = ap₂ (λ (k m : ℕ). k + m) (first-is User) (blocks-are User)

  pub image-fitted : Fitted im
  image-fitted = image-length n records fits.sizes ∙ ap (λ (k : ℕ). 512 * k) (sym needed-are)

  pub shape_is : (kind : Kind) → shape_of im kind ≡ laid_shape n records kind
  shape_is kind = rw (first-is kind, edition-is, count-is kind)
