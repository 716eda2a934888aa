-- What the rules of user records mean, but for those of below, both ways: a rule holds exactly if what it says holds. Assumes nothing.
use Rattle.std.proofs.Common.{◌≡◌, ℕ, ◌-◌, ◌<◌, ◌≤◌, Bool, true, false, not, ◌&&◌, eqb, ltb, ◌⊎◌, List, length, sym, refl, ap, ◌∙◌, inl, inr, ⊎_elim, true≢false, le_refl, arith, ltb-true, lt-ltb, eq-eqb, eqb-true, le-leb, leb-true}
use borrow.Author.Tests.{not-true}
use Rattle.fields.specs.Bytes.{byte_at}
use Rattle.fields.specs.Names.{name_before}
use Rattle.fields.proofs.Both.{parts, either, both, or_left, or_right}
use Rattle.fields.proofs.Meaning.{zero-part, part-zero, zero_rest, rest-zero, NameKept, name-means, name-holds, before-irrefl, before-trans}
use Rattle.sets.specs.Sets.{has}
use Rattle.sets.proofs.Bounds.{below-lacks}
use Rattle.sets.proofs.Within.{within_has, has_within}
use Rattle.header.specs.declared.edition.Edition.{Edition}
use Rattle.header.specs.declared.profile.Profile.{Profile}
use Rattle.header.specs.declared.counts.Counts.{Counts}
use Rattle.header.specs.declared.layout.Kind.TheVariants.{User}
use Rattle.records.specs.Fields.{user_name_field, user_name, privileges, has_compaccess, maximum_level, minimum_level, default_level, row_level, read_compartments, write_compartments, default_compartments, row_compartments, read_groups, write_groups, default_groups, row_groups, user_end}
use Rattle.records.specs.Rules.{record_in, user_levels_rule, user_compartments_rule, user_groups_rule, bans_compaccess, privileges_rule, user_shape, user_name_after, rule_of}
use Rattle.records.proofs.MeaningLabels.{exist-means, exist-holds}
use Rattle.records.proofs.Rising.{rise, apart}

-- ---- levels: minimum ≤ row ≤ default ≤ maximum, and all exist
pub record LevelsKept (count : ℕ) (rec : List ℕ) : Type 0 where
  pub minimum_row : minimum_level rec ≤ row_level rec
  pub row_default : row_level rec ≤ default_level rec
  pub default_maximum : default_level rec ≤ maximum_level rec
  pub maximum_exists : maximum_level rec < count

pub user-levels-means : (count : ℕ) (rec : List ℕ) → user_levels_rule count rec ≡ true → LevelsKept count rec
unfolding user_levels_rule
user-levels-means count rec e =
    let q3 = parts _ _ e in
    let q2 = parts _ _ q3.0 in
    let q1 = parts _ _ q2.0 in
    record {
      minimum_row = leb-true _ _ q1.0;
      row_default = leb-true _ _ q1.1;
      default_maximum = leb-true _ _ q2.1;
      maximum_exists = ltb-true _ _ q3.1;
    }

pub user-levels-holds : (count : ℕ) (rec : List ℕ) → LevelsKept count rec → user_levels_rule count rec ≡ true
unfolding user_levels_rule
user-levels-holds count rec k =
    rw (le-leb _ _ k.minimum_row, le-leb _ _ k.row_default, le-leb _ _ k.default_maximum, lt-ltb _ _ k.maximum_exists)

-- ---- compartments: write and default lie in read, row in default and in write, and all exist
pub record CompartmentsKept (count : ℕ) (rec : List ℕ) : Type 0 where
  pub read_exist : (p : ℕ) → has (read_compartments rec) p ≡ true → p < count
  pub write_in_read : (p : ℕ) → has (write_compartments rec) p ≡ true → has (read_compartments rec) p ≡ true
  pub default_in_read : (p : ℕ) → has (default_compartments rec) p ≡ true → has (read_compartments rec) p ≡ true
  pub row_in_default : (p : ℕ) → has (row_compartments rec) p ≡ true → has (default_compartments rec) p ≡ true
  pub row_in_write : (p : ℕ) → has (row_compartments rec) p ≡ true → has (write_compartments rec) p ≡ true

pub user-compartments-means : (count : ℕ) (rec : List ℕ) → user_compartments_rule count rec ≡ true → CompartmentsKept count rec
unfolding user_compartments_rule
user-compartments-means count rec e =
    let q4 = parts _ _ e in
    let q3 = parts _ _ q4.0 in
    let q2 = parts _ _ q3.0 in
    let q1 = parts _ _ q2.0 in
    record {
      read_exist = exist-means (read_compartments rec) count q1.0;
      write_in_read = within_has (write_compartments rec) (read_compartments rec) q1.1;
      default_in_read = within_has (default_compartments rec) (read_compartments rec) q2.1;
      row_in_default = within_has (row_compartments rec) (default_compartments rec) q3.1;
      row_in_write = within_has (row_compartments rec) (write_compartments rec) q4.1;
    }

pub user-compartments-holds : (count : ℕ) (rec : List ℕ) → CompartmentsKept count rec → user_compartments_rule count rec ≡ true
unfolding user_compartments_rule
user-compartments-holds count rec k =
    rw (
      exist-holds (read_compartments rec) count k.read_exist,
      has_within (write_compartments rec) (read_compartments rec) k.write_in_read,
      has_within (default_compartments rec) (read_compartments rec) k.default_in_read,
      has_within (row_compartments rec) (default_compartments rec) k.row_in_default,
      has_within (row_compartments rec) (write_compartments rec) k.row_in_write,
    )

-- ---- groups: all four sets name only groups that exist
pub record GroupsKept (edition : Edition) (count : ℕ) (rec : List ℕ) : Type 0 where
  pub read_exist : (p : ℕ) → has (read_groups edition rec) p ≡ true → p < count
  pub write_exist : (p : ℕ) → has (write_groups edition rec) p ≡ true → p < count
  pub default_exist : (p : ℕ) → has (default_groups edition rec) p ≡ true → p < count
  pub row_exist : (p : ℕ) → has (row_groups edition rec) p ≡ true → p < count

pub user-groups-means : (edition : Edition) (count : ℕ) (rec : List ℕ) → user_groups_rule edition count rec ≡ true → GroupsKept edition count rec
unfolding user_groups_rule
user-groups-means edition count rec e =
    let q3 = parts _ _ e in
    let q2 = parts _ _ q3.0 in
    let q1 = parts _ _ q2.0 in
    record {
      read_exist = exist-means (read_groups edition rec) count q1.0;
      write_exist = exist-means (write_groups edition rec) count q1.1;
      default_exist = exist-means (default_groups edition rec) count q2.1;
      row_exist = exist-means (row_groups edition rec) count q3.1;
    }

pub user-groups-holds : (edition : Edition) (count : ℕ) (rec : List ℕ) → GroupsKept edition count rec → user_groups_rule edition count rec ≡ true
unfolding user_groups_rule
user-groups-holds edition count rec k =
    rw (
      exist-holds (read_groups edition rec) count k.read_exist,
      exist-holds (write_groups edition rec) count k.write_exist,
      exist-holds (default_groups edition rec) count k.default_exist,
      exist-holds (row_groups edition rec) count k.row_exist,
    )

-- ---- privileges: every one is a bit below 128, and where COMPACCESS is banned none is that
pub record PrivilegesKept (edition : Edition) (profile : Profile) (held : ℕ) : Type 0 where
  pub limit : held < 128
  pub compaccess_gone : bans_compaccess edition profile ≡ true → has_compaccess held ≡ false

module _ (edition : Edition) (profile : Profile) (held : ℕ) where
  pub privileges-means : privileges_rule edition profile held ≡ true → PrivilegesKept edition profile held
  unfolding privileges_rule
  privileges-means e =
      let q = parts (ltb held 128) (not (bans_compaccess edition profile && has_compaccess held)) e in
      record { limit = ltb-true _ _ q.0; compaccess_gone = at (bans_compaccess edition profile) q.1 }
    where
      at : (t : Bool) → not (t && has_compaccess held) ≡ true → t ≡ true → has_compaccess held ≡ false
      at true e q = not-true _ e
      at false e q = absurd (true≢false (sym q))

  pub privileges-holds : PrivilegesKept edition profile held → privileges_rule edition profile held ≡ true
  unfolding privileges_rule
  privileges-holds k = rw (lt-ltb _ _ k.limit) (at (bans_compaccess edition profile) k.compaccess_gone)
    where
      at : (t : Bool) → (t ≡ true → has_compaccess held ≡ false) → not (t && has_compaccess held) ≡ true
      at true gone = rw (gone refl)
      at false gone = refl

-- ---- a record by itself
-- bytes 36..39 and those after the sets are unused
pub record UserKept (n : Counts) (rec : List ℕ) : Type 0 where
  pub named : NameKept (user_name_field rec)
  pub privileges_kept : PrivilegesKept n.edition n.profile (privileges rec)
  pub unused_levels : (i : ℕ) → 36 ≤ i → i < 40 → byte_at rec i ≡ 0
  pub unused_end : (i : ℕ) → user_end n.edition ≤ i → byte_at rec i ≡ 0
  pub levels_kept : LevelsKept n.levels rec
  pub compartments_kept : CompartmentsKept n.compartments rec
  pub groups_kept : GroupsKept n.edition n.groups rec

module _ (n : Counts) (rec : List ℕ) where
  pub user-shape-means : user_shape n rec ≡ true → UserKept n rec
  unfolding user_shape
  user-shape-means e =
      let q6 = parts _ _ e in
      let q5 = parts _ _ q6.0 in
      let q4 = parts _ _ q5.0 in
      let q3 = parts _ _ q4.0 in
      let q2 = parts _ _ q3.0 in
      let q1 = parts _ _ q2.0 in
      record {
        named = name-means _ q1.0;
        privileges_kept = privileges-means n.edition n.profile (privileges rec) q1.1;
        unused_levels = zero-part rec 36 4 q2.1;
        unused_end = zero_rest rec (user_end n.edition) q3.1;
        levels_kept = user-levels-means n.levels rec q4.1;
        compartments_kept = user-compartments-means n.compartments rec q5.1;
        groups_kept = user-groups-means n.edition n.groups rec q6.1;
      }

  pub user-shape-holds : UserKept n rec → user_shape n rec ≡ true
  unfolding user_shape
  user-shape-holds k =
      rw (
        name-holds _ k.named,
        privileges-holds n.edition n.profile (privileges rec) k.privileges_kept,
        part-zero rec 36 4 k.unused_levels,
        rest-zero rec (user_end n.edition) k.unused_end,
        user-levels-holds n.levels rec k.levels_kept,
        user-compartments-holds n.compartments rec k.compartments_kept,
        user-groups-holds n.edition n.groups rec k.groups_kept,
      )

  -- the last privilege bit is zero
  pub last_bit : UserKept n rec → has (privileges rec) 7 ≡ false
  last_bit k = below-lacks (privileges rec) 7 k.privileges_kept.limit 7 (le_refl 7)

-- ---- among the others
module _ (records : List (List ℕ)) (u : ℕ) where
  -- the first, or after the one before it
  abbrev pub NameRises : Type 0
  NameRises = (u ≡ 0) ⊎ (name_before (user_name (record_in records (u - 1))) (user_name (record_in records u)) ≡ true)

  pub user-name-means : user_name_after u (record_in records (u - 1)) (record_in records u) ≡ true → NameRises
  user-name-means e = ⊎_elim (λ p. inl (eqb-true _ _ p)) (λ p. inr p) (either _ _ e)

  pub user-name-holds : NameRises → user_name_after u (record_in records (u - 1)) (record_in records u) ≡ true
  user-name-holds = ⊎_elim (λ p. or_left _ _ (eq-eqb _ _ p)) (λ p. or_right (eqb u 0) _ p)

module _ (n : Counts) (records : List (List ℕ)) (u : ℕ) where
  pub record UserAmong : Type 0 where
    pub kept : UserKept n (record_in records u)
    pub rises : NameRises records u

  pub user-means : rule_of User n records u ≡ true → UserAmong
  unfolding rule_of
  user-means e =
      let q = parts _ _ (parts _ _ e).0 in
      record { kept = user-shape-means n (record_in records u) q.0; rises = user-name-means records u q.1 }

  pub user-holds : UserAmong → rule_of User n records u ≡ true
  unfolding rule_of
  user-holds a = both _ _ (both _ _ (user-shape-holds n (record_in records u) a.kept) (user-name-holds records u a.rises)) refl

-- ---- all of them
module _ (records : List (List ℕ)) (rises : (u : ℕ) → u < length records → NameRises records u) where
  pub names-rise : (j k : ℕ) → j < k → k < length records
      → name_before (user_name (record_in records j)) (user_name (record_in records k)) ≡ true
  names-rise j k less high =
      rise (λ a b. name_before (user_name (record_in records a)) (user_name (record_in records b)) ≡ true)
      (λ a b c. before-trans (user_name (record_in records a)) (user_name (record_in records b)) (user_name (record_in records c)))
      0 (length records) step j k (omega arith) less high
    where
      step : (m : ℕ) → 0 < m → m < length records
          → name_before (user_name (record_in records (m - 1))) (user_name (record_in records m)) ≡ true
      step m low upto = ⊎_elim (λ q. absurd (omega arith)) (λ l. l) (rises m upto)

  -- so a name is that of one user
  pub user-unique : (j k : ℕ) → j < length records → k < length records
      → user_name (record_in records j) ≡ user_name (record_in records k) → j ≡ k
  user-unique =
      apart (λ a b. user_name (record_in records a) ≡ user_name (record_in records b)) (λ a b. sym) (length records)
      (λ a b less high e. before-irrefl (user_name (record_in records b))
      (ap (λ (s : List ℕ). name_before s (user_name (record_in records b))) (sym e) ∙ names-rise a b less high))
