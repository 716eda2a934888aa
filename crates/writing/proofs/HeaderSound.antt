-- The header and the length of an image that is laid out keep their rules where the counts keep their limits. Assumes nothing.
use Prim.Native.Nat.{ℕ, ◌+◌, ◌≤◌, ◌<◌}
use mathlib.Core.Path.{◌≡◌, ap, ◌∙◌}
use mathlib.Core.Bool.{true}
use mathlib.Core.List.{List, ◌++◌}
use mathlib.Core.Logic.{◌⊎◌, inl, inr}
use native.Mathlib.Omega.{arith}
use lib.ListN.{length}
use Rattle.fields.specs.Bytes.{byte_at}
use Rattle.header.specs.declared.edition.Edition.{Edition}
use Rattle.header.specs.declared.edition.Edition.TheVariants.{One, Two}
use Rattle.header.specs.declared.profile.Profile.{Profile}
use Rattle.header.specs.declared.profile.Profile.TheVariants.{Tree, Release}
use Rattle.header.specs.declared.layout.Kind.{Kind}
use Rattle.header.specs.declared.layout.Kind.TheVariants.{Component, Label, User}
use Rattle.header.specs.declared.counts.Counts.{Counts}
use Rattle.header.specs.Layout.{by_edition, capacity_of, blocks_for}
use Rattle.header.specs.Header.{header_rule, fit_rule}
use Rattle.header.specs.Limits.{limits_in}
use Rattle.blocks.specs.Blocks.{length_rule}
use Rattle.blocks.proofs.Meaning.{length-holds}
use Rattle.records.proofs.MeaningHeader.{UnusedKept, header-holds, fit-holds}
use Rattle.writing.specs.Laid.{head_of, profile_byte, header_fields, blocks_in, image_of, Fits, Limited}
use Rattle.writing.proofs.Placed.{header-used, image-length}
use Rattle.writing.proofs.Counted.{header-byte, header-unused, edition-byte-is, profile-byte-is, edition-is, levels-is, compartments-is, groups-is}
use Rattle.writing.proofs.Counted.{users-is, labels-is, image-fitted}

-- the edition's byte is 1 or 2
known : (edition : Edition) (x : ℕ) → x ≡ by_edition edition 1 2 → (x ≡ 1) ⊎ (x ≡ 2)
known One x e = inl e
known Two x e = inr e

-- and the profile's 0 or 1
profiled : (profile : Profile) (x : ℕ) → x ≡ profile_byte profile → x ≤ 1
profiled Tree x e = omega arith
profiled Release x e = omega arith

-- byte 7 is not used in edition 2, nor is byte 13
module _ (profile levels compartments groups users labels : ℕ) (im : List ℕ) where
  unused-in : (edition : Edition)
      → ((i : ℕ) → i < 510 → byte_at im i ≡ byte_at (head_of 80 0 0 ++ header_fields edition profile levels compartments groups users labels) i)
      → ((i : ℕ) → by_edition edition 13 16 ≤ i → i < 510 → byte_at im i ≡ 0) → UnusedKept edition im
  unused-in One same zero = zero
  unused-in Two same zero =
      let at-13 : byte_at im 13 ≡ 0 = same 13 (omega arith) in
      (same 7 (omega arith), ((λ i l u. let q : i ≡ 13 = omega arith in ap (byte_at im) q ∙ at-13), zero))

-- the blocks that counts within their limits need, beside the header
few : (edition : Edition) (c l u : ℕ) → c ≤ 96 + (limits_in edition).groups → l ≤ (limits_in edition).labels → u ≤ (limits_in edition).users
    → blocks_for (capacity_of edition Component) c + blocks_for (capacity_of edition Label) l + blocks_for (capacity_of edition User) u ≤ 126
unfolding blocks_for
few One c l u hc hl hu = omega arith
few Two c l u hc hl hu = omega arith

module _ (n : Counts) (records : Kind → List (List ℕ)) (fits : Fits n records) where
  abbrev im : List ℕ
  im = image_of n records

  pub header-right : Limited n (length (records User)) (length (records Label)) → header_rule im ≡ true
  header-right k =
      header-holds im
      (record {
        kind = header-byte n records fits 0 (omega arith);
        none = header-byte n records fits 1 (omega arith);
        edition = known n.edition (byte_at im 4) (edition-byte-is n records fits);
        profile = profiled n.profile (byte_at im 12) (profile-byte-is n records fits);
        levels_some = rw (levels-is n records fits) k.levels_some;
        levels_limit = rw (levels-is n records fits) k.levels_limit;
        compartments_limit = rw (compartments-is n records fits) k.compartments_limit;
        groups_limit = rw (groups-is n records fits, edition-is n records fits) k.groups_limit;
        users_limit = rw (users-is n records fits, edition-is n records fits) k.users_limit;
        labels_limit = rw (labels-is n records fits, edition-is n records fits) k.labels_limit;
        unused =
            rw (edition-is n records fits)
            (unused-in (profile_byte n.profile) n.levels n.compartments n.groups (length (records User)) (length (records Label)) im n.edition
            (header-byte n records fits)
            (λ i l u. header-unused n records fits i (rw (header-used n (length (records User)) (length (records Label))) l) u));
      })

  pub fit-right : fit_rule im ≡ true
  fit-right = fit-holds im (image-fitted n records fits)

  -- such counts need at most 127 blocks
  pub few-blocks : Limited n (length (records User)) (length (records Label))
      → 1 + blocks_in n records Component + blocks_in n records Label + blocks_in n records User ≤ 127
  few-blocks k =
      let h = few n.edition (length (records Component)) (length (records Label)) (length (records User))
      (omega (arith, fits.components, k.levels_limit, k.compartments_limit, k.groups_limit)) k.labels_limit k.users_limit in
      omega arith

  pub length-right : Limited n (length (records User)) (length (records Label)) → length_rule im ≡ true
  length-right k =
      let h = few-blocks k in
      let l = image-length n records fits.sizes in
      length-holds im (record { some = omega arith; whole = omega arith; most = omega arith })
