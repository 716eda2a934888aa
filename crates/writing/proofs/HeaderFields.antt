-- What the header's used bytes tell, in both editions. Assumes nothing.
use Prim.Native.Nat.{ℕ, ◌+◌, ◌*◌, ◌/◌, ◌%◌}
use mathlib.Core.Path.{◌≡◌, refl}
use mathlib.Core.List.{List, ◌++◌}
use native.Mathlib.Omega.{arith}
use lib.ListN.{length}
use Rattle.fields.specs.Bytes.{byte_at, number2}
use Rattle.header.specs.declared.edition.Edition.{Edition}
use Rattle.header.specs.declared.edition.Edition.TheVariants.{One, Two}
use Rattle.header.specs.Layout.{by_edition}
use Rattle.writing.specs.Laid.{head_of, header_fields}

-- a number's two bytes
pub bytes2-number : (x : ℕ) → x % 256 + 256 * (x / 256) ≡ x
bytes2-number x = omega arith

module _ (profile levels compartments groups users labels : ℕ) where
  abbrev used : Edition → List ℕ
  used edition = head_of 80 0 0 ++ header_fields edition profile levels compartments groups users labels

  -- how many bytes are used, and what stands in them
  pub record Told (edition : Edition) : Type 0 where
    pub long : length (used edition) ≡ by_edition edition 13 16
    pub edition-byte : byte_at (used edition) 4 ≡ by_edition edition 1 2
    pub levels-byte : byte_at (used edition) 5 ≡ levels
    pub compartments-byte : byte_at (used edition) 6 ≡ compartments
    pub groups-bytes : by_edition edition (byte_at (used edition) 7) (number2 (used edition) 14) ≡ groups
    pub users-bytes : number2 (used edition) 8 ≡ users
    pub labels-bytes : number2 (used edition) 10 ≡ labels
    pub profile-byte : byte_at (used edition) 12 ≡ profile

  pub told : (edition : Edition) → Told edition
  unfolding number2
  told One =
      record {
        long = refl;
        edition-byte = refl;
        levels-byte = refl;
        compartments-byte = refl;
        groups-bytes = refl;
        users-bytes = bytes2-number users;
        labels-bytes = bytes2-number labels;
        profile-byte = refl;
      }
  told Two =
      record {
        long = refl;
        edition-byte = refl;
        levels-byte = refl;
        compartments-byte = refl;
        groups-bytes = bytes2-number groups;
        users-bytes = bytes2-number users;
        labels-bytes = bytes2-number labels;
        profile-byte = refl;
      }
