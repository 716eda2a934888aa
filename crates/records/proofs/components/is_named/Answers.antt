use Rattle.std.proofs.Common.{◌≡◌, ℕ, ◌-◌, min, true, false, not, ◌&&◌, eqb, ltb, List, length, arith, length-drop, length-take, ltb-true}
use borrow.Author.Tests.{eqb-false, not-true}
use Rattle.fields.specs.Bytes.{byte_at, part}
use Rattle.fields.specs.Names.{name_in, same_bytes, in_letters}
use Rattle.fields.proofs.Folding.{in-letters-length}
use Rattle.fields.proofs.Both.{parts}
use Rattle.fields.proofs.Laws.{part_length, part-byte, same_length}
use Rattle.records.specs.Fields.{component_name_field, component_name}
use Rattle.records.proofs.components.is_named.Goals as goal

-- a name of fewer than 30 bytes, of another length than the record stores, is another
other_length : (rec name : List ℕ) → length rec ≡ 40 → (not (eqb (byte_at rec 1) (length name)) && ltb (length name) 30) ≡ true
    → false ≡ same_bytes (component_name rec) name
unfolding name_in
other_length rec name l t =
    let q = parts _ _ t in
    let d = eqb-false (byte_at rec 1) (length name) (not-true _ q.0) in
    let s = ltb-true (length name) 30 q.1 in
    let field = component_name_field rec in
    let b : byte_at field 0 ≡ byte_at rec 1 = part-byte rec 1 31 0 (omega arith) in
    let f : length field ≡ 31 = part_length rec 1 31 (omega arith) in
    let g : length (part field 1 (byte_at field 0)) ≡ min (byte_at field 0) (length field - 1) = simp (length-take, length-drop) in
    same_length _ _ (λ e. d (omega (arith, e, g, b, f)))

pub returns-then-n-name : goal.returns-then-n-name
returns-then-n-name c =
    let name = in_letters c.args.letters c.args.name.now in
    other_length c.args.rec.now name c.requires (rw (in-letters-length c.args.letters c.args.name.now) c.if-n-name.true)
