-- The words of a name's field: they are those of the name with zeros after it, so that equal names are equal words. Assumes nothing.
use Rattle.std.proofs.Common.{◌≡◌, ℕ, ◌+◌, ◌-◌, ◌<◌, ◌≤◌, true, not, eqb, List, length, sym, refl, ap, ◌∙◌, inl, inr, ⊎_elim, le_refl, arith, ext_get_or, eq-eqb, eqb-true}
use lib.ListN.{get_or-eq_default}
use Rattle.fields.specs.Bytes.{byte_at, part, number2, number4, number8}
use Rattle.fields.specs.Names.{name_in, name_rule, same_bytes}
use Rattle.fields.specs.Scan.{first_bad, first_where}
use Rattle.fields.proofs.Both.{parts, same_truth, below_or}
use Rattle.fields.proofs.Laws.{part-byte, part-short}
use Rattle.fields.proofs.Meaning.{NameByte, NameKept, name-means, same-means, same_refl}
use Rattle.fields.proofs.Scan.{bad-same-on}
use Rattle.fields.proofs.Words.{Bytes, word_same}
use Rattle.records.specs.Fields.{component_name_field, component_name}
use Rattle.records.specs.Rules.{record_in, other_name}
use Rattle.records.specs.Fresh.{name_key, field_of, alike, NamesKept}

-- the 30 bytes after the length are the name and then zeros
padded : (field : List ℕ) → NameKept field → (i : ℕ) → i < 30 → byte_at field (1 + i) ≡ byte_at (name_in field) i
unfolding name_in
padded field k i h =
    ⊎_elim (λ l. sym (part-byte field 1 (byte_at field 0) i l))
    (λ l. k.rest (1 + i) (omega arith) (omega arith)
    ∙ sym (get_or-eq_default (part field 1 (byte_at field 0)) 0 (omega (arith, part-short field 1 (byte_at field 0)))))
    (below_or i (byte_at field 0))

module _ (rec : List ℕ) (kept : name_rule (component_name_field rec) ≡ true) where
  -- byte i of the name, at its place in the record
  name-at : (i at : ℕ) → i < 30 → 2 + i ≡ at → byte_at rec at ≡ byte_at (component_name rec) i
  name-at i at h e =
      let q : 1 + (1 + i) ≡ at = omega arith in
      ap (byte_at rec) (sym q) ∙ sym (part-byte rec 1 31 (1 + i) (omega arith))
      ∙ padded (component_name_field rec) (name-means _ kept) i h

  name-word : (k at : ℕ) → k + 8 ≤ 30 → 2 + k ≡ at → number8 rec at ≡ number8 (component_name rec) k
  unfolding number8 number4 number2
  name-word k at h e =
      rw (
        name-at k at (omega arith) (omega arith),
        name-at (k + 1) (at + 1) (omega arith) (omega arith),
        name-at (k + 2) (at + 2) (omega arith) (omega arith),
        name-at (k + 2 + 1) (at + 2 + 1) (omega arith) (omega arith),
        name-at (k + 4) (at + 4) (omega arith) (omega arith),
        name-at (k + 4 + 1) (at + 4 + 1) (omega arith) (omega arith),
        name-at (k + 4 + 2) (at + 4 + 2) (omega arith) (omega arith),
        name-at (k + 4 + 2 + 1) (at + 4 + 2 + 1) (omega arith) (omega arith),
      )

  name-upto : length (component_name rec) ≤ 30
  unfolding name_in
  name-upto =
      let k = name-means _ kept in
      omega (arith, k.longest, part-short (component_name_field rec) 1 (byte_at (component_name_field rec) 0))

  -- a byte of the name is one from 1 to 127, and what is read past its end is zero
  named : (i : ℕ) → i < length (component_name rec) → (1 ≤ byte_at (component_name rec) i) × (byte_at (component_name rec) i < 256)
  named i h = at ((name-means _ kept).alphabet i h)
    where
      at : NameByte (byte_at (component_name rec) i) → (1 ≤ byte_at (component_name rec) i) × (byte_at (component_name rec) i < 256)
      at (inl (a, b)) = (omega arith, omega arith)
      at (inr (inl (a, b))) = (omega arith, omega arith)
      at (inr (inr e)) = (omega arith, omega arith)

  past : (i : ℕ) → length (component_name rec) ≤ i → byte_at (component_name rec) i ≡ 0
  past i h = get_or-eq_default (component_name rec) 0 h

  name-bytes : Bytes (component_name rec)
  name-bytes i = ⊎_elim (λ l. (named i l).1) (λ l. omega (arith, past i l)) (below_or i (length (component_name rec)))

module _ (a b : List ℕ) (p : name_rule (component_name_field a) ≡ true) (q : name_rule (component_name_field b) ≡ true) where
  -- ---- equal names are equal words
  same_word : (k at : ℕ) → k + 8 ≤ 30 → 2 + k ≡ at → component_name a ≡ component_name b → number8 a at ≡ number8 b at
  same_word k at h i e = name-word a p k at h i ∙ ap (λ (s : List ℕ). number8 s k) e ∙ sym (name-word b q k at h i)

  -- and have one key
  pub same_key : component_name a ≡ component_name b → name_key a ≡ name_key b
  unfolding name_key
  same_key e =
      rw (
        same_word 0 2 (omega arith) refl e,
        same_word 8 10 (omega arith) refl e,
        same_word 16 18 (omega arith) refl e,
        same_word 22 24 (omega arith) refl e,
      )

  -- ---- equal words are equal names
  word_back : (k at : ℕ) → k + 8 ≤ 30 → 2 + k ≡ at → number8 a at ≡ number8 b at → (i : ℕ) → k ≤ i → i < k + 8
      → byte_at (component_name a) i ≡ byte_at (component_name b) i
  word_back k at h e w i low high =
      let back : k + (i - k) ≡ i = omega arith in
      let words = sym (name-word a p k at h e) ∙ w ∙ name-word b q k at h e in
      rw back at (word_same (component_name a) (component_name b) (name-bytes a p) (name-bytes b q) k words (i - k) (omega arith))

  -- the shorter of two names that begin alike would have a zero where the other has a byte of its own
  long-upto : (c d : List ℕ) → name_rule (component_name_field d) ≡ true → length (component_name d) ≤ 30
      → ((i : ℕ) → i < 30 → byte_at (component_name c) i ≡ byte_at (component_name d) i) → length (component_name d) ≤ length (component_name c)
  long-upto c d r few same =
      let n : ℕ = length (component_name c) in
      ⊎_elim (λ l. absurd (omega (arith, (named d r n l).0, same n (omega arith), get_or-eq_default (component_name c) 0 (le_refl n)))) (λ l. l)
      (below_or n (length (component_name d)))

  names_same : ((i : ℕ) → i < 30 → byte_at (component_name a) i ≡ byte_at (component_name b) i) → component_name a ≡ component_name b
  names_same same =
      let up = long-upto a b q (name-upto b q) same in
      let down = long-upto b a p (name-upto a p) (λ i h. sym (same i h)) in
      ext_get_or 0 (component_name a) (component_name b) (omega arith) (λ i h. same i (omega (arith, name-upto a p)))

  alike-means : alike (field_of a) b ≡ true → component_name a ≡ component_name b
  unfolding alike
  alike-means e =
      let p3 = parts _ _ e in
      let p2 = parts _ _ p3.0 in
      let p1 = parts _ _ p2.0 in
      let w2 = sym (eqb-true _ _ p3.1) in
      let w10 = sym (eqb-true _ _ p2.1) in
      let w18 = sym (eqb-true _ _ p1.1) in
      let w24 = sym (eqb-true _ _ p1.0) in
      names_same
      (λ i h. ⊎_elim (λ l. word_back 0 2 (omega arith) refl w2 i (omega arith) (omega arith))
      (λ l. ⊎_elim (λ m. word_back 8 10 (omega arith) refl w10 i (omega arith) (omega arith))
      (λ m. ⊎_elim (λ n. word_back 16 18 (omega arith) refl w18 i (omega arith) (omega arith))
      (λ n. word_back 22 24 (omega arith) refl w24 i (omega arith) (omega arith))
      (below_or i 24)) (below_or i 16)) (below_or i 8))

  alike-holds : component_name a ≡ component_name b → alike (field_of a) b ≡ true
  unfolding alike
  alike-holds e =
      let word : (k at : ℕ) → k + 8 ≤ 30 → 2 + k ≡ at → eqb (number8 b at) (number8 a at) ≡ true =
      λ k at h i. eq-eqb _ _ (sym (same_word k at h i e)) in
      rw (word 0 2 (omega arith) refl, word 8 10 (omega arith) refl, word 16 18 (omega arith) refl, word 22 24 (omega arith) refl)

  -- another name is another word
  pub unlike-is : not (alike (field_of a) b) ≡ other_name (component_name a) b
  unfolding other_name
  unlike-is =
      ap not
      (same_truth _ _
      (λ e. ap (λ (s : List ℕ). same_bytes s (component_name a)) (sym (alike-means e)) ∙ same_refl (component_name a))
      (λ e. alike-holds (sym (same-means _ _ e))))

-- a search by words is one by names
pub search-same : (records : List (List ℕ)) (rec : List ℕ) (start end : ℕ) → start ≤ end → name_rule (component_name_field rec) ≡ true
    → NamesKept records end → first_where (λ j. alike (field_of rec) (record_in records j)) (end - start) start
    ≡ first_bad (λ j. other_name (component_name rec) (record_in records j)) (end - start) start
search-same records rec start end low named kept =
    bad-same-on _ _ (end - start) start (λ j a b. unlike-is rec (record_in records j) named (kept.each j (omega arith)))
