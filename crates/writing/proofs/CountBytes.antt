-- The numbers in the header of an image that is laid out are bytes. Assumes nothing.
use Prim.Native.Nat.{ℕ, zero, suc, ◌+◌, ◌-◌, ◌≤◌, ◌<◌}
use mathlib.Core.Path.{◌≡◌, subst}
use mathlib.Core.List.{List, ◌++◌}
use native.Mathlib.Omega.{arith}
use lib.ListN.{length}
use Rattle.fields.specs.Bytes.{byte_at}
use Rattle.header.specs.declared.edition.Edition.{Edition}
use Rattle.header.specs.declared.edition.Edition.TheVariants.{One, Two}
use Rattle.header.specs.declared.profile.Profile.{Profile}
use Rattle.header.specs.declared.profile.Profile.TheVariants.{Tree, Release}
use Rattle.header.specs.declared.layout.Kind.{Kind}
use Rattle.header.specs.declared.layout.Kind.TheVariants.{Label, User}
use Rattle.header.specs.declared.counts.Counts.{Counts}
use Rattle.header.proofs.Editions.{most-groups, most-users, most-labels}
use Rattle.writing.specs.Laid.{head_of, profile_byte, header_fields, image_of, Fits, Limited}
use Rattle.writing.proofs.Counted.{header-byte}

profile-few : (profile : Profile) → profile_byte profile < 256
profile-few Tree = omega arith
profile-few Release = omega arith

-- the bytes from 8 up to 16: users, labels, the profile, and in edition 2 the groups
module _ (profile levels compartments groups users labels : ℕ) (p : profile < 256) (g : groups < 65536) (u : users < 65536) (l : labels < 65536) where
  in_bytes : (edition : Edition) (j : ℕ) → j < 8
      → byte_at (head_of 80 0 0 ++ header_fields edition profile levels compartments groups users labels) (8 + j) < 256
  in_bytes edition (suc (suc (suc (suc (suc (suc (suc (suc j)))))))) h = absurd (omega arith)
  in_bytes One zero h = omega arith
  in_bytes One (suc zero) h = omega arith
  in_bytes One (suc (suc zero)) h = omega arith
  in_bytes One (suc (suc (suc zero))) h = omega arith
  in_bytes One (suc (suc (suc (suc zero)))) h = p
  in_bytes One (suc (suc (suc (suc (suc zero))))) h = omega arith
  in_bytes One (suc (suc (suc (suc (suc (suc zero)))))) h = omega arith
  in_bytes One (suc (suc (suc (suc (suc (suc (suc zero))))))) h = omega arith
  in_bytes Two zero h = omega arith
  in_bytes Two (suc zero) h = omega arith
  in_bytes Two (suc (suc zero)) h = omega arith
  in_bytes Two (suc (suc (suc zero))) h = omega arith
  in_bytes Two (suc (suc (suc (suc zero)))) h = p
  in_bytes Two (suc (suc (suc (suc (suc zero))))) h = omega arith
  in_bytes Two (suc (suc (suc (suc (suc (suc zero)))))) h = omega arith
  in_bytes Two (suc (suc (suc (suc (suc (suc (suc zero))))))) h = omega arith

module _ (n : Counts) (records : Kind → List (List ℕ)) (fits : Fits n records) (limited : Limited n (length (records User)) (length (records Label))) where
  pub count-bytes : (i : ℕ) → 8 ≤ i → i < 16 → byte_at (image_of n records) i < 256
  count-bytes i low high =
      let there : 8 + (i - 8) ≡ i = omega arith in
      let few-groups : n.groups < 65536 = omega (arith, limited.groups_limit, most-groups n.edition) in
      let few-users : length (records User) < 65536 = omega (arith, limited.users_limit, most-users n.edition) in
      let few-labels : length (records Label) < 65536 = omega (arith, limited.labels_limit, most-labels n.edition) in
      subst (λ (k : ℕ). byte_at (image_of n records) k < 256) there
      (rw (header-byte n records fits (8 + (i - 8)) (omega arith))
      (in_bytes (profile_byte n.profile) n.levels n.compartments n.groups (length (records User)) (length (records Label))
      (profile-few n.profile) few-groups few-users few-labels n.edition (i - 8) (omega arith)))
