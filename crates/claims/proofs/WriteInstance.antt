-- Instances on the sample: taken apart and written again it is the same bytes; with its labels lent twice it is refused 33 at the fourth of them.
-- Assumes nothing.
use Rattle.std.proofs.Common.{Ok, Err}
use Prim.Native.Nat.{ℕ, ◌≤◌, ◌<◌}
use mathlib.Core.Path.{◌≡◌, refl, ap}
use mathlib.Core.Bool.{Bool, true, false}
use mathlib.Core.List.{List, [], ◌∷◌, ◌++◌, append-nil, flatten}
use native.Mathlib.Nat.{le_of_eq}
use native.Mathlib.Omega.{arith}
use borrow.Author.Tests.{ltb-true, ltb-false, le-leb}
use lib.Dec.{ltb}
use lib.ListN.{length, drop, replicate, length-replicate, drop_of_length-le, get_or-eq_default}
use lib.Seq.{take_all}
use Rattle.fields.specs.Bytes.{byte_at, AreBytes, number2, number4, number8, all}
use Rattle.fields.specs.Names.{name_byte, name_in, name_rule, same_bytes}
use Rattle.fields.specs.Scan.{first_bad, list_from, places_where}
use Rattle.fields.proofs.Meaning.{all-means}
use Rattle.sets.specs.Sets.{has, all_below, within}
use Rattle.sets.specs.Words.{joined}
use Rattle.refusals.specs.Answers.{refused}
use Rattle.buffers.specs.Filling.{written_to}
use Rattle.header.specs.declared.layout.Kind.{Kind}
use Rattle.header.specs.declared.layout.Kind.TheVariants.{Component, Label, User}
use Rattle.header.specs.Layout.{levels, compartments, groups, users, labels, components, first_block, blocks_for, record_offset, record_at, records_of, class_at, class_first, edition_of, profile_of}
use Rattle.records.specs.Fields.{groups_at}
use Rattle.records.specs.Rules.{run_records, parent_rule, component_shape, other_name, new_name_rule, label_shape, rule_of}
use Rattle.image.specs.Check.{IsAccepted}
use Rattle.writing.specs.declared.answers.LentFault.TheVariants.{Record}
use Rattle.writing.specs.declared.answers.WriteRefusal.TheVariants.{Lent, Buffer}
use Rattle.writing.specs.Lent.{bytes_by, class_total, lent_layout_rule, records_check, lent_check}
use Rattle.writing.specs.Calls.{write_of, write_given, records_given_of}
use Rattle.writing.proofs.Refusing.{refused-by}
use Rattle.sample.specs.Cooperative.{cooperative}
use Rattle.sample.proofs.Sample.{sample-length, sample-accepted}
use Rattle.claims.proofs.WriteClaims.{apart-written}

-- ---- a buffer of zeros that is just long enough
just-room : (bytes : List ℕ) (n : ℕ) → length bytes ≡ n → written_to (replicate n 0) bytes ≡ (Ok n, bytes)
just-room bytes n e =
    let room : List ℕ = replicate n 0 in
    let long : length room ≡ n = length-replicate n 0 in
    let enough : length bytes ≤ length room = omega arith in
    let most : length room ≤ length bytes = omega arith in
    let none : drop (length bytes) room ≡ [] = drop_of_length-le room most in
    rw (le-leb (length bytes) (length room) enough, none, append-nil, e)

-- the records of an accepted image, taken to such buffers
taken-apart : (im : List ℕ) → IsAccepted im → (kind : Kind) (n : ℕ) → length (flatten (records_of im kind)) ≡ n
    → records_given_of kind im (replicate n 0) ≡ (Ok n, flatten (records_of im kind))
unfolding records_given_of
taken-apart im acc kind n e = rw acc (just-room (flatten (records_of im kind)) n e)

-- ---- the sample
-- its numbers are bytes
below : all (λ x. ltb x 256) cooperative ≡ true
unfolding cooperative all
below = refl

sample-bytes : AreBytes cooperative
sample-bytes k = at (ltb k (length cooperative)) refl
  where
    at : (t : Bool) → ltb k (length cooperative) ≡ t → byte_at cooperative k < 256
    at true e = ltb-true _ _ (all-means (λ x. ltb x 256) cooperative below k (ltb-true _ _ e))
    at false e = omega (arith, get_or-eq_default cooperative 0 (ltb-false _ _ e))

-- 9 components, 3 labels and 1 user
record-lengths : (length (flatten (records_of cooperative Component)) ≡ 360)
    × ((length (flatten (records_of cooperative Label)) ≡ 72) × (length (flatten (records_of cooperative User)) ≡ 128))
unfolding cooperative records_of list_from record_at record_offset first_block blocks_for levels compartments groups users labels components edition_of profile_of number2 flatten
record-lengths = (refl, (refl, refl))

told : (byte_at cooperative 4 ≡ 1) × (byte_at cooperative 12 ≡ 0)
unfolding cooperative
told = (refl, refl)

-- Taken apart, it gives the records of each kind.
pub sample-components : records_given_of Component cooperative (replicate 360 0) ≡ (Ok 360, flatten (records_of cooperative Component))
sample-components = taken-apart cooperative sample-accepted Component 360 record-lengths.0

pub sample-labels : records_given_of Label cooperative (replicate 72 0) ≡ (Ok 72, flatten (records_of cooperative Label))
sample-labels = taken-apart cooperative sample-accepted Label 72 record-lengths.1.0

pub sample-users : records_given_of User cooperative (replicate 128 0) ≡ (Ok 128, flatten (records_of cooperative User))
sample-users = taken-apart cooperative sample-accepted User 128 record-lengths.1.1

-- Written again, these give its bytes.
pub sample-again : write_of 1 0 (flatten (records_of cooperative Component)) (flatten (records_of cooperative Label)) (flatten (records_of cooperative User)) (replicate 2048 0)
    ≡ (Ok 2048, cooperative)
sample-again =
    let c = take_all 360 (flatten (records_of cooperative Component)) (le_of_eq record-lengths.0) in
    let l = take_all 72 (flatten (records_of cooperative Label)) (le_of_eq record-lengths.1.0) in
    let u = take_all 128 (flatten (records_of cooperative User)) (le_of_eq record-lengths.1.1) in
    let again = apart-written cooperative sample-bytes (replicate 360 0) (flatten (records_of cooperative Component)) (replicate 72 0)
    (flatten (records_of cooperative Label)) (replicate 128 0) (flatten (records_of cooperative User)) 360 72 128
    sample-components sample-labels sample-users (replicate 2048 0) in
    rw (told.0, told.1, c, l, u, just-room cooperative 2048 sample-length) at again

-- ---- its labels twice: the fourth has the tag of the first, so tags do not rise
abbrev twice : List ℕ
twice = flatten (records_of cooperative Label) ++ flatten (records_of cooperative Label)

fourth : lent_check 1 0 (bytes_by (flatten (records_of cooperative Component)) twice (flatten (records_of cooperative User))) ≡ Err (Record Label 3)
unfolding cooperative records_of list_from record_at record_offset first_block blocks_for levels compartments groups users labels components edition_of profile_of number2 number4 number8 flatten lent_check lent_layout_rule run_records class_total places_where records_check first_bad rule_of parent_rule component_shape other_name new_name_rule label_shape class_at class_first name_byte name_in name_rule same_bytes all has all_below within groups_at joined
fourth = refl

pub twice-refused : (buffer : List ℕ)
    → write_of 1 0 (flatten (records_of cooperative Component)) (flatten (records_of cooperative Label) ++ flatten (records_of cooperative Label))
    (flatten (records_of cooperative User)) buffer
    ≡ (Err (Lent (Record Label 3)), buffer)
twice-refused buffer =
    refused-by 1 0 (flatten (records_of cooperative Component)) twice (flatten (records_of cooperative User)) buffer (Record Label 3) fourth

-- which is given back as 33 and the place 3
pub twice-given : (buffer : List ℕ)
    → write_given
    (write_of 1 0 (flatten (records_of cooperative Component)) (flatten (records_of cooperative Label) ++ flatten (records_of cooperative Label))
    (flatten (records_of cooperative User)) buffer).0
    ≡ refused 33 (3 ∷ [])
twice-given buffer = ap (λ p. write_given p.0) (twice-refused buffer)
