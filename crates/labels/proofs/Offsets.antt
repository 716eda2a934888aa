-- The place that a refused text tells is at most two past the text's length. Assumes nothing.
use Rattle.std.proofs.Common.{Ok, Err}
use Prim.Native.Nat.{ℕ, ◌+◌, ◌≤◌, ◌<◌, ◌^◌}
use mathlib.Core.Path.{◌≡◌, refl, sym, subst}
use mathlib.Core.Bool.{Bool, true, false, cond, true≢false}
use mathlib.Core.List.{List, [], ◌∷◌}
use native.Mathlib.Omega.{arith}
use borrow.Author.Tests.{leb-true}
use lib.Dec.{eqb, ltb}
use lib.ListN.{length}
use Rattle.fields.proofs.Both.{both_left}
use Rattle.sets.specs.Sets.{has, none, one, union}
use Rattle.refusals.specs.declared.Refusal.{Refusal}
use Rattle.refusals.specs.Refusals.{place_of}
use Rattle.header.specs.Layout.{edition_of, levels}
use Rattle.header.proofs.Editions.{most-text}
use Rattle.header.specs.Limits.{limits_of}
use Rattle.refusals.specs.Answers.{on_checked, Checked}
use Rattle.image.specs.Check.{check_of}
use Rattle.image.proofs.Place.{check-place}
use Rattle.labels.specs.declared.answers.Reason.{Reason}
use Rattle.labels.specs.declared.answers.Reason.TheVariants.{Shape}
use Rattle.labels.specs.Label.{Marks}
use Rattle.labels.specs.Text.{comma, colon, split, onto, shape_of_parts, shape_rule}
use Rattle.labels.specs.Parse.{class_count, place_of_name, Reading, read, refused, unknown, repeated, then_read, Parsing, of_text, refusal_of}
use Rattle.labels.specs.Parse.{read_names, read_list, groups_after, read_sets, read_parts, read_text, parse_of}
use Rattle.labels.proofs.Reading.{has_parts, split_parts}

-- the bytes of the parts and one more for each
abbrev spans : List (List ℕ) → ℕ
spans [] = 0
spans (part ∷ rest) = length part + 1 + spans rest

onto-spans : (x : ℕ) (parts : List (List ℕ)) → has_parts parts ≡ true → spans (onto x parts) ≡ spans parts + 1
onto-spans x [] e = absurd (true≢false (sym e))
onto-spans x (part ∷ rest) e = omega arith

split-spans : (mark : ℕ) (s : List ℕ) → spans (split mark s) ≡ length s + 1
unfolding split
split-spans mark [] = refl
split-spans mark (x ∷ xs) = at (eqb x mark) (split mark xs) (split_parts mark xs) (split-spans mark xs)
  where
    at : (t : Bool) (parts : List (List ℕ)) → has_parts parts ≡ true → spans parts ≡ length xs + 1
        → spans (cond t ([] ∷ parts) (onto x parts)) ≡ length (x ∷ xs) + 1
    at true parts e h = omega arith
    at false parts e h = omega (arith, onto-spans x parts e)

-- the place that a reading tells; 0 where it refuses nothing
abbrev told : {A : Type 0} → Reading A → ℕ
told (read x) = 0
told (refused reason) = place_of (refusal_of reason)

names-told : (im : List ℕ) (class : ℕ) (names : List (List ℕ)) (offset set : ℕ)
    → told (read_names im class offset set names) ≤ offset + spans names
unfolding read_names
names-told im class [] offset set = omega arith
names-told im class (name ∷ rest) offset set =
    at (ltb (place_of_name im class name) (class_count im class)) (has set (place_of_name im class name))
    (read_names im class (offset + length name + 1) (union set (one (place_of_name im class name))) rest)
    (names-told im class rest (offset + length name + 1) (union set (one (place_of_name im class name))))
  where
    at : (s t : Bool) (later : Reading ℕ) → told later ≤ offset + length name + 1 + spans rest
        → told (cond s (cond t (repeated offset) later) (unknown offset)) ≤ offset + spans (name ∷ rest)
    at true true later h = omega arith
    at true false later h = omega arith
    at false t later h = omega arith

list-told : (im : List ℕ) (class offset : ℕ) (text : List ℕ) → told (read_list im class offset text) ≤ offset + length text + 1
list-told im class offset [] = omega arith
list-told im class offset (x ∷ xs) =
    omega (arith, names-told im class (split comma (x ∷ xs)) offset none, split-spans comma (x ∷ xs))

then-told : {A B : Type 0} (first : Reading A) (next : A → Reading B) (most : ℕ) → told first ≤ most → ((x : A) → told (next x) ≤ most)
    → told (then_read first next) ≤ most
then-told (read x) next most h all = all x
then-told (refused reason) next most h all = h

groups-told : (im : List ℕ) (level compartments offset : ℕ) (parts : List (List ℕ))
    → told (groups_after im level compartments offset parts) ≤ offset + spans parts
groups-told im level compartments offset [] = omega arith
groups-told im level compartments offset (part ∷ more) =
    then-told (read_list im 3 offset part) _ (offset + spans (part ∷ more)) (omega (arith, list-told im 3 offset part)) (λ g. omega arith)

sets-told : (im : List ℕ) (level offset : ℕ) (parts : List (List ℕ)) → told (read_sets im level offset parts) ≤ offset + spans parts
sets-told im level offset [] = omega arith
sets-told im level offset (part ∷ more) =
    then-told (read_list im 2 offset part) _ (offset + spans (part ∷ more)) (omega (arith, list-told im 2 offset part))
    (λ c. omega (arith, groups-told im level c (offset + length part + 1) more))

parts-told : (im : List ℕ) (parts : List (List ℕ)) → told (read_parts im parts) ≤ spans parts
parts-told im [] = omega arith
parts-told im (level ∷ rest) =
    at (ltb (place_of_name im 1 level) (levels im)) (read_sets im (place_of_name im 1 level) (length level + 1) rest)
    (sets-told im (place_of_name im 1 level) (length level + 1) rest)
  where
    at : (t : Bool) (sets : Reading Marks) → told sets ≤ length level + 1 + spans rest
        → told (cond t sets (unknown 0)) ≤ spans (level ∷ rest)
    at true sets h = h
    at false sets h = omega arith

text-told : (im text : List ℕ) → told (read_text im text) < 2 ^ 32
text-told im text = at (shape_rule (limits_of im).text text) refl
  where
    short : shape_rule (limits_of im).text text ≡ true → length text ≤ (limits_of im).text
    short e = unfold shape_rule in leb-true _ _ (both_left _ (shape_of_parts (split colon text)) e)

    at : (t : Bool) → shape_rule (limits_of im).text text ≡ t
        → told (cond t (read_parts im (split colon text)) (refused Shape)) < 2 ^ 32
    at true e = omega (arith, parts-told im (split colon text), split-spans colon text, short e, most-text (edition_of im))
    at false e = omega arith

-- ---- so an answer that holds the place has room for it
pub read_told : (im text : List ℕ) (reason : Reason) → read_text im text ≡ refused reason → place_of (refusal_of reason) < 2 ^ 32
read_told im text reason e = subst (λ (x : Reading Marks). told x < 2 ^ 32) e (text-told im text)

pub image-told : (im text : List ℕ) (r : Refusal) → parse_of im text ≡ Err r → place_of r < 2 ^ 32
unfolding parse_of
image-told im text r e = subst (λ (p : Parsing). place_in p < 2 ^ 32) e (at (check_of im) refl)
  where
    place_in : Parsing → ℕ
    place_in (Ok m) = 0
    place_in (Err q) = place_of q

    text-place : (x : Reading Marks) → told x < 2 ^ 32 → place_in (of_text x) < 2 ^ 32
    text-place (read m) h = h
    text-place (refused reason) h = h

    at : (c : Checked) → check_of im ≡ c → place_in (on_checked c Err (of_text (read_text im text))) < 2 ^ 32
    at (Ok tt) d = text-place (read_text im text) (text-told im text)
    at (Err q) d = check-place im q d

pub parse-told : (im text : List ℕ) (reason : Reason) → parse_of im text ≡ of_text (refused reason) → place_of (refusal_of reason) < 2 ^ 32
parse-told im text reason e = image-told im text (refusal_of reason) e
