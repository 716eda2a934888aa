use Prim.Native.Nat.{ℕ}
use mathlib.Core.Path.{◌≡◌}
use mathlib.Core.List.{◌∷◌, ◌++◌}
use native.Mathlib.Omega.{arith}
use Rattle.header.specs.declared.edition.Edition.TheVariants.{One}
use Rattle.writing.specs.Laid.{bytes2, head_of, sealed, header_fields, header_block}
use Rattle.writing.proofs.KindSteps.{written_same}
use Rattle.writing.proofs.Sealed.{sealed-padded}
use Rattle.writing.proofs.block.put_header.Goals as goal
use Rattle.writing.proofs.block.put_header.Goals.{in-One, in-Two}

-- in edition 1 the bytes behind the profile are unused
one-padded : (profile levels compartments groups users labels : ℕ)
    → sealed (head_of 80 0 0 ++ 1 ∷ levels ∷ compartments ∷ groups ∷ bytes2 users ++ bytes2 labels ++ profile ∷ 0 ∷ bytes2 0)
    ≡ sealed (head_of 80 0 0 ++ header_fields One profile levels compartments groups users labels)
one-padded profile levels compartments groups users labels =
    sealed-padded (head_of 80 0 0 ++ header_fields One profile levels compartments groups users labels) 3 (omega arith)

pub returns : goal.returns
unfolding header_block
returns c =
    let a = c.args in
    let told = rw (
      c.low.ensures,
      c.high.ensures,
      c.low-2.ensures,
      c.high-2.ensures,
      c.low-3.ensures,
      c.high-3.ensures,
      c.profile_byte.ensures,
    ) at c.put_block.ensures in
    elim c.match-edition.branch [
      | in-One w ↦ rw w.in-One.is (written_same (one-padded _ a.levels a.compartments a.groups a.users a.labels) (rw w.number-is at told))
      | in-Two w ↦ rw w.in-Two.is (rw w.number-is at told)
    ]
