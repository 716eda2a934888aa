-- The map of a session, made into a buffer that has room for any: by it the same rows count as by verdicts. Assumes nothing.
use Prim.Native.Nat.{ℕ, zero, suc, ◌+◌, ◌-◌, ◌≤◌}
use mathlib.Core.Path.{◌≡◌, refl, ap₂, ◌∙◌}
use mathlib.Core.Bool.{Bool, true}
use mathlib.Core.List.{List, [], ◌∷◌}
use native.Mathlib.Nat.{sub-zero}
use native.Mathlib.Omega.{arith}
use lib.ListN.{length, take, drop}
use Rattle.buffers.specs.Pasting.{Written}
use Rattle.buffers.proofs.Left.{written-taken}
use Rattle.image.specs.Check.{IsAccepted}
use Rattle.image.proofs.Accepted.{accepted-counted}
use Rattle.access.specs.Rights.{Rights}
use Rattle.access.specs.Verdicts.{unknown_read}
use Rattle.maps.specs.Map.{map_of, map_rule}
use Rattle.maps.proofs.Bits.{map-long, map-at-most, rule-holds, rule-enough}
use Rattle.rows.specs.Run.{offset_of}
use Rattle.rows.specs.Table.{row_tag, row_readable}
use Rattle.rows.specs.Mapped.{row_mapped}
use Rattle.rows.specs.Scan.{Mapping}
use Rattle.rows.proofs.ByMap.{tag-mapped}

module _ (im : List ℕ) (rights : Rights) (acc : IsAccepted im) where
  module _ (before after : List ℕ) (end : ℕ) (room : length before ≡ 210) (written : Written before 0 (map_of im rights) after end) where
    fits : 0 + length (map_of im rights) ≤ length before
    fits = omega (arith, map-long im rights, map-at-most im (accepted-counted im acc), room)

    pub made_inside : end ≤ 210
    made_inside = omega (arith, written.stop, fits, room)

    made-is : take (end - 0) (drop 0 after) ≡ map_of im rights
    made-is = rw sub-zero (written-taken fits written)

    pub made-right : map_rule im rights (take (end - 0) (drop 0 after)) ≡ true
    made-right = rw made-is (rule-holds im rights)

    pub made-mapping : Mapping im (take (end - 0) (drop 0 after))
    made-mapping = record { accepted = acc; enough = rw made-is (rule-enough im rights (map_of im rights) (rule-holds im rights)) }

    pub made-same : (unknown : Bool) → unknown ≡ unknown_read im rights → (row : List ℕ)
        → row_mapped im (take (end - 0) (drop 0 after)) unknown row ≡ row_readable im rights row
    made-same unknown is row =
        ap₂ (λ (bits : List ℕ) (u : Bool). row_mapped im bits u row) made-is is
        ∙ tag-mapped im rights (map_of im rights) (rule-holds im rights) (row_tag row)

-- two tests that agree find the same row
pub offset-same : (test other : List ℕ → Bool) → ((row : List ℕ) → test row ≡ other row) → (n : ℕ) (rows : List (List ℕ))
    → offset_of test n rows ≡ offset_of other n rows
unfolding offset_of
offset-same test other same n [] = refl
offset-same test other same zero (row ∷ rows) = rw (same row, offset-same test other same zero rows)
offset-same test other same (suc n) (row ∷ rows) = rw (same row, offset-same test other same n rows, offset-same test other same (suc n) rows)
