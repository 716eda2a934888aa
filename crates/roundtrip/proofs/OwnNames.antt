-- The names of an accepted image's components: a component is found by its own name, and the name holds no separator. Assumes nothing.
use Prim.Native.Nat.{ℕ, ◌+◌, ◌-◌, ◌≤◌, ◌<◌}
use mathlib.Core.Path.{◌≡◌, refl, sym, ap, ◌∙◌}
use mathlib.Core.Bool.{true, false, ◌&&◌}
use mathlib.Core.List.{List, [], ◌∷◌}
use native.Mathlib.Omega.{arith}
use lib.Dec.{leb}
use lib.ListN.{length}
use Rattle.fields.specs.Bytes.{byte_at, part, all_zero}
use Rattle.fields.specs.Names.{name_byte, name_in, name_rule, all_name_bytes, folded_name}
use Rattle.fields.proofs.Both.{both_left, both_right}
use Rattle.fields.proofs.Laws.{part_length}
use Rattle.fields.proofs.Folding.{folded-name}
use Rattle.fields.proofs.Meaning.{NameKept, found_at, same_refl, same-means, name-length, name-holds}
use Rattle.header.specs.Layout.{components, component_record}
use Rattle.records.specs.Fields.{component_name_field}
use Rattle.header.specs.declared.layout.Kind.TheVariants.{Component}
use Rattle.header.proofs.Inside.{record-length}
use Rattle.image.specs.Check.{IsAccepted}
use Rattle.image.specs.Lookup.{component_index}
use Rattle.image.proofs.Accepted.{accepted-counted}
use Rattle.image.proofs.Placed.{placed-index}
use Rattle.image.proofs.Policy.{component-kept}
use Rattle.labels.specs.Text.{comma, colon, all_text_bytes, is_name}
use Rattle.labels.specs.Parse.{matches, class_count, place_of_name}
use Rattle.printing.specs.Print.{name_at}
use Rattle.labels.proofs.Alphabet.{name-bytes-in-text}
use Rattle.labels.proofs.Classes.{class-has}
use Rattle.labels.proofs.Unique.{place-unique}
use Rattle.roundtrip.proofs.Unmarked.{lacks, name-lacks}
use Rattle.printing.proofs.Listed.{name-short}

-- ---- the bytes of a name that keeps its rule
named-bytes : (field : List ℕ) → name_rule field ≡ true → all_name_bytes (name_in field) ≡ true
unfolding name_rule
named-bytes field e =
    let a = leb 1 (byte_at field 0) && leb (byte_at field 0) 30 in
    let b = all_name_bytes (name_in field) in
    both_right a b (both_left (a && b) (all_zero (part field (1 + byte_at field 0) (30 - byte_at field 0))) e)

-- ---- a component is found by its own name
-- what is found has the name, folded
pub place_found : (im : List ℕ) (class p : ℕ) → p < class_count im class → (name : List ℕ) → place_of_name im class name ≡ p
    → folded_name name ≡ name_at im class p
unfolding place_of_name matches
place_found im class p h name e =
    let there : place_of_name im class name < 0 + class_count im class = omega (arith, e, h) in
    let same = same-means _ _ (found_at (λ j. matches (name_at im class j) name) (class_count im class) 0 there) in
    sym same ∙ ap (name_at im class) e

module _ (im : List ℕ) (acc : IsAccepted im) (class : ℕ) (low : 1 ≤ class) (high : class ≤ 3) (p : ℕ) (h : p < class_count im class) where
  -- ---- the name is of the alphabet, so it is folded already, and is found by itself
  index-inside : component_index im class p < components im
  index-inside = placed-index im class p (class-has im class p low high h)

  name-kept : NameKept (component_name_field (component_record im (component_index im class p)))
  name-kept = (component-kept im acc (component_index im class p) index-inside).named

  pub name-bytes : all_name_bytes (name_at im class p) ≡ true
  name-bytes = named-bytes (component_name_field (component_record im (component_index im class p))) (name-holds _ name-kept)

  pub own-folded : folded_name (name_at im class p) ≡ name_at im class p
  own-folded = folded-name (name_at im class p) name-bytes

  pub place-of-own-name : place_of_name im class (name_at im class p) ≡ p
  unfolding matches
  place-of-own-name =
      place-unique im acc class low high p h (name_at im class p) (λ there. rw own-folded (same_refl (name_at im class p)))

  -- ---- it has 1 byte or more and 30 at most
  name-some : 1 ≤ length (name_at im class p)
  name-some =
      let rec = component_record im (component_index im class p) in
      let l : length rec ≡ 40 = record-length im (accepted-counted im acc).fitted Component (component_index im class p) index-inside in
      let f : length (component_name_field rec) ≡ 31 = part_length rec 1 31 (omega arith) in
      omega (arith, name-length (component_name_field rec) f name-kept, name-kept.shortest)

  pub name-lengths : (1 ≤ length (name_at im class p)) × (length (name_at im class p) ≤ 30)
  name-lengths = (name-some, name-short im acc class p (class-has im class p low high h))

  pub name-is : is_name (name_at im class p) ≡ true
  unfolding is_name
  name-is = at (name_at im class p) name-some (name-bytes-in-text (name_at im class p) name-bytes)
    where
      at : (s : List ℕ) → 1 ≤ length s → all_text_bytes s ≡ true → is_name s ≡ true
      at [] l e = absurd (omega arith)
      at (x ∷ xs) l e = e

  -- ---- so it holds neither separator
  pub name-no-comma : lacks comma (name_at im class p) ≡ true
  unfolding name_byte
  name-no-comma = name-lacks comma outside (name_at im class p) name-bytes
    where
      outside : name_byte comma ≡ false
      outside = refl

  pub name-no-colon : lacks colon (name_at im class p) ≡ true
  unfolding name_byte
  name-no-colon = name-lacks colon outside (name_at im class p) name-bytes
    where
      outside : name_byte colon ≡ false
      outside = refl
