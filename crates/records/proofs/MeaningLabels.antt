-- What the rules of label records mean, both ways: a rule holds exactly if what it says holds. Assumes nothing.
use Rattle.std.proofs.Common.{◌≡◌, ℕ, ◌-◌, ◌<◌, ◌≤◌, true, eqb, ◌⊎◌, List, length, sym, refl, inl, inr, ⊎_elim, lt_trans, arith, ltb-true, lt-ltb, eq-eqb, eqb-true, le-leb, leb-true}
use Rattle.fields.specs.Bytes.{byte_at}
use Rattle.fields.proofs.Both.{parts, either, both, or_left, or_right}
use Rattle.fields.proofs.Meaning.{zero-part, part-zero}
use Rattle.sets.specs.Sets.{has, within, all_below}
use Rattle.sets.proofs.Has.{all_below-has}
use Rattle.sets.proofs.Bounds.{within-below, below-has}
use Rattle.sets.proofs.Within.{has_within}
use Rattle.header.specs.declared.counts.Counts.{Counts}
use Rattle.header.specs.declared.layout.Kind.TheVariants.{Label}
use Rattle.records.specs.Fields.{tag_of, label_level, label_compartments, label_groups}
use Rattle.records.specs.Rules.{record_in, label_shape, tag_after, rule_of}
use Rattle.records.proofs.Rising.{rise, apart}

-- a set names only places that exist
pub exist-means : (s n : ℕ) → within s (all_below n) ≡ true → (p : ℕ) → has s p ≡ true → p < n
exist-means s n e = below-has s n (within-below s n e)

pub exist-holds : (s n : ℕ) → ((p : ℕ) → has s p ≡ true → p < n) → within s (all_below n) ≡ true
exist-holds s n f = has_within s (all_below n) (λ p h. rw (all_below-has n p, lt-ltb p n (f p h)))

-- ---- a record by itself
-- a tag of 1 to 99,999,999, a level and sets that exist, and bytes 5..7 unused
pub record LabelKept (n : Counts) (rec : List ℕ) : Type 0 where
  pub tag_some : 1 ≤ tag_of rec
  pub tag_limit : tag_of rec ≤ 99999999
  pub level_exists : label_level rec < n.levels
  pub unused : (i : ℕ) → 5 ≤ i → i < 8 → byte_at rec i ≡ 0
  pub compartments_exist : (p : ℕ) → has (label_compartments rec) p ≡ true → p < n.compartments
  pub groups_exist : (p : ℕ) → has (label_groups n.edition rec) p ≡ true → p < n.groups

module _ (n : Counts) (rec : List ℕ) where
  pub label-shape-means : label_shape n rec ≡ true → LabelKept n rec
  unfolding label_shape
  label-shape-means e =
      let q5 = parts _ _ e in
      let q4 = parts _ _ q5.0 in
      let q3 = parts _ _ q4.0 in
      let q2 = parts _ _ q3.0 in
      let q1 = parts _ _ q2.0 in
      record {
        tag_some = leb-true _ _ q1.0;
        tag_limit = leb-true _ _ q1.1;
        level_exists = ltb-true _ _ q2.1;
        unused = zero-part rec 5 3 q3.1;
        compartments_exist = exist-means (label_compartments rec) n.compartments q4.1;
        groups_exist = exist-means (label_groups n.edition rec) n.groups q5.1;
      }

  pub label-shape-holds : LabelKept n rec → label_shape n rec ≡ true
  unfolding label_shape
  label-shape-holds k =
      rw (
        le-leb _ _ k.tag_some,
        le-leb _ _ k.tag_limit,
        lt-ltb _ _ k.level_exists,
        part-zero rec 5 3 k.unused,
        exist-holds (label_compartments rec) n.compartments k.compartments_exist,
        exist-holds (label_groups n.edition rec) n.groups k.groups_exist,
      )

-- ---- among the others
module _ (records : List (List ℕ)) (k : ℕ) where
  -- the first, or above the one before it
  abbrev pub TagRises : Type 0
  TagRises = (k ≡ 0) ⊎ (tag_of (record_in records (k - 1)) < tag_of (record_in records k))

  pub tag-means : tag_after k (record_in records (k - 1)) (record_in records k) ≡ true → TagRises
  tag-means e = ⊎_elim (λ p. inl (eqb-true _ _ p)) (λ p. inr (ltb-true _ _ p)) (either _ _ e)

  pub tag-holds : TagRises → tag_after k (record_in records (k - 1)) (record_in records k) ≡ true
  tag-holds = ⊎_elim (λ p. or_left _ _ (eq-eqb _ _ p)) (λ p. or_right (eqb k 0) _ (lt-ltb _ _ p))

module _ (n : Counts) (records : List (List ℕ)) (k : ℕ) where
  pub record LabelAmong : Type 0 where
    pub kept : LabelKept n (record_in records k)
    pub rises : TagRises records k

  pub label-means : rule_of Label n records k ≡ true → LabelAmong
  unfolding rule_of
  label-means e =
      let q = parts _ _ (parts _ _ e).0 in
      record { kept = label-shape-means n (record_in records k) q.0; rises = tag-means records k q.1 }

  pub label-holds : LabelAmong → rule_of Label n records k ≡ true
  unfolding rule_of
  label-holds a = both _ _ (both _ _ (label-shape-holds n (record_in records k) a.kept) (tag-holds records k a.rises)) refl

-- ---- all of them
module _ (records : List (List ℕ)) (rises : (k : ℕ) → k < length records → TagRises records k) where
  pub tags-rise : (j k : ℕ) → j < k → k < length records → tag_of (record_in records j) < tag_of (record_in records k)
  tags-rise j k less high =
      rise (λ a b. tag_of (record_in records a) < tag_of (record_in records b)) (λ a b c. lt_trans)
      0 (length records) step j k (omega arith) less high
    where
      step : (m : ℕ) → 0 < m → m < length records → tag_of (record_in records (m - 1)) < tag_of (record_in records m)
      step m low upto = ⊎_elim (λ q. absurd (omega arith)) (λ l. l) (rises m upto)

  -- so a tag names one label
  pub tag-unique : (j k : ℕ) → j < length records → k < length records → tag_of (record_in records j) ≡ tag_of (record_in records k) → j ≡ k
  tag-unique =
      apart (λ a b. tag_of (record_in records a) ≡ tag_of (record_in records b)) (λ a b. sym) (length records)
      (λ a b less high e. let l : tag_of (record_in records a) < tag_of (record_in records b) = tags-rise a b less high in omega arith)
