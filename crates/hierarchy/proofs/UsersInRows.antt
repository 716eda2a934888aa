-- Users in rows, sixteen at once: the loop that passes over users, and those that fill the rows. Assumes nothing.
use Rattle.std.specs.Prelude.{Option, None, Some, MatchOption}
use Prim.Native.Nat.{ℕ, ◌+◌, ◌-◌, ◌*◌, ◌/◌, ◌≤◌, ◌<◌}
use mathlib.Core.Path.{◌≡◌, refl, sym, ap, ◌∙◌, subst}
use mathlib.Core.Bool.{Bool, true, false, cond}
use mathlib.Core.List.{List}
use native.Mathlib.Nat.{le_refl}
use native.Mathlib.Omega.{arith}
use borrow.Author.Count.{below_more}
use borrow.Author.Tests.{lt-ltb, le-ltb, ltb-true, ltb-false}
use lib.Dec.{ltb}
use Rattle.fields.specs.Bytes.{number8}
use Rattle.fields.proofs.Both.{parts}
use Rattle.fields.proofs.Words.{Bytes, word_low}
use Rattle.sets.specs.Sets.{none, all_below, union, intersection, within}
use Rattle.sets.specs.Groups.{places_of}
use Rattle.sets.proofs.Within.{within-trans, within-union-left, within-union-right, intersection-within-left, intersection-within-right}
use Rattle.sets.proofs.Bounds.{within-below}
use Rattle.sets.proofs.Words.{joined-alone}
use Rattle.header.specs.declared.edition.Edition.{Edition}
use Rattle.header.specs.declared.edition.Edition.TheVariants.{One}
use Rattle.records.specs.declared.users.GroupSets.{GroupSets}
use Rattle.records.specs.Fields.{groups_at, read_groups, write_groups, default_groups, row_groups}
use Rattle.records.specs.Users.{GroupsAre}
use Rattle.hierarchy.specs.declared.users.Users.{Users}
use Rattle.hierarchy.specs.Forest.{Forest, below_in}
use Rattle.hierarchy.specs.Below.{below_sets, of_sets}
use Rattle.hierarchy.specs.Users.{user_in, UserRecord}
use Rattle.hierarchy.specs.SetRows.{set_at, UserPut, RowsFit}
use Rattle.hierarchy.specs.UserRows.{user_set, NoSets, SetsAre, plain_sets, plain_rule, PlainUpto, HoldsSet, Filled}
use Rattle.hierarchy.proofs.Under.{below_self}

-- ---- one user
-- in edition 1 each set is a word of the record
pub words_are : (rec : List ℕ) (sets : GroupSets) → Bytes rec → places_of sets.read ≡ number8 rec 72 → places_of sets.write ≡ number8 rec 80
    → places_of sets.default ≡ number8 rec 88 → places_of sets.row ≡ number8 rec 96 → GroupsAre One rec sets
unfolding groups_at
words_are rec sets small read write default row =
    record { read = read ∙ alone 72; write = write ∙ alone 80; default = default ∙ alone 88; row = row ∙ alone 96 }
  where
    alone : (k : ℕ) → number8 rec k ≡ groups_at One rec k
    alone k = sym (joined-alone (number8 rec k) 0 (word_low rec small k))

module _ (l : Users) (bytes : List ℕ) (u : ℕ) where
  pub user-there : (field : Edition → List ℕ → ℕ) → u < l.count → user_set l bytes field u ≡ field l.edition (user_in l bytes u)
  unfolding user_set
  user-there field h = ap (λ (t : Bool). cond t (field l.edition (user_in l bytes u)) none) (lt-ltb u l.count h)

  pub user-none : (field : Edition → List ℕ → ℕ) → l.count ≤ u → user_set l bytes field u ≡ none
  unfolding user_set
  user-none field h = ap (λ (t : Bool). cond t (field l.edition (user_in l bytes u)) none) (le-ltb u l.count h)

  pub sets-there : (rec : List ℕ) (sets : GroupSets) → u < l.count → rec ≡ user_in l bytes u → GroupsAre l.edition rec sets → SetsAre l bytes u sets
  sets-there rec sets h r are =
      record {
        read = are.read ∙ field read_groups;
        write = are.write ∙ field write_groups;
        default = are.default ∙ field default_groups;
        row = are.row ∙ field row_groups;
      }
    where
      field : (of : Edition → List ℕ → ℕ) → of l.edition rec ≡ user_set l bytes of u
      field of = ap (of l.edition) r ∙ sym (user-there of h)

  pub sets-none : (sets : GroupSets) → l.count ≤ u → NoSets sets → SetsAre l bytes u sets
  sets-none sets h empty =
      record {
        read = empty.read ∙ sym (user-none read_groups h);
        write = empty.write ∙ sym (user-none write_groups h);
        default = empty.default ∙ sym (user-none default_groups h);
        row = empty.row ∙ sym (user-none row_groups h);
      }

  -- the sets that were read in the record, where there is one
  pub sets-read : {T : Type 0} (now : T → List ℕ) (found : Option T) (sets : GroupSets)
      → MatchOption found (l.count ≤ u) (λ rec. UserRecord l bytes u (now rec))
      → MatchOption found (NoSets sets) (λ rec. GroupsAre l.edition (now rec) sets)
      → SetsAre l bytes u sets
  sets-read now None sets past empty = sets-none sets past empty
  sets-read now (Some rec) sets there are = sets-there (now rec) sets there.here there.is are

  -- the rule of a user who is there, by the values that code has for the sets
  pub sets-rule : (rule : (read write default row : ℕ) → Bool) (sets : GroupSets) → u < l.count → SetsAre l bytes u sets
      → of_sets rule sets
      ≡ rule (read_groups l.edition (user_in l bytes u)) (write_groups l.edition (user_in l bytes u)) (default_groups l.edition (user_in l bytes u))
      (row_groups l.edition (user_in l bytes u))
  sets-rule rule sets h are =
      rw (
        are.read ∙ user-there read_groups h,
        are.write ∙ user-there write_groups h,
        are.default ∙ user-there default_groups h,
        are.row ∙ user-there row_groups h,
      )

-- ---- sets that lie within one another as they stand
pub plain-below : (f : Forest) (read write default row : ℕ) → plain_sets (all_below f.count) read write default row ≡ true
    → below_sets f read write default row ≡ true
unfolding plain_sets below_sets
plain-below f read write default row e =
    let all = all_below f.count in
    let two = parts _ _ e in
    let one = parts _ _ two.0 in
    let write-in = within-trans write (union write default) read (within-union-left write default) one.0 in
    let default-in = within-trans default (union write default) read (within-union-right write default) one.0 in
    let row-in-default =
    within-trans row (intersection default write) default one.1 (intersection-within-left default write) in
    let row-in-write =
    within-trans row (intersection default write) write one.1 (intersection-within-right default write) in
    rw (
      lies write read write-in two.1,
      lies default read default-in two.1,
      lies row default row-in-default (within-trans default read all default-in two.1),
      lies row write row-in-write (within-trans write read all write-in two.1),
    )
  where
    -- a part of t, which has groups only
    lies : (s t : ℕ) → within s t ≡ true → within t (all_below f.count) ≡ true → within s (below_in f t) ≡ true
    lies s t w inside = within-trans s t (below_in f t) w (below_self f t (within-below t f.count inside))

pub plain-none : (all : ℕ) (l : Users) (bytes : List ℕ) (from : ℕ) → PlainUpto all l bytes from from
plain-none all l bytes from = record { after = le_refl from; plain = λ u low high. absurd (omega arith) }

pub plain-next : (all : ℕ) (l : Users) (bytes : List ℕ) (from u : ℕ) (sets : GroupSets) → PlainUpto all l bytes from u → SetsAre l bytes u sets
    → of_sets (plain_sets all) sets ≡ true → PlainUpto all l bytes from (u + 1)
plain-next all l bytes from u sets so are e =
    record {
      after = let h = so.after in omega arith;
      plain =
          λ v low high.
          below_more (λ (k : ℕ). from ≤ k → plain_rule all l bytes k ≡ true) u (λ k h m. so.plain k m h)
          (λ m. rw (← are.read, ← are.write, ← are.default, ← are.row) e) v high low;
    }

-- ---- filling the rows
-- the set at place b of `rows` is also that of the new rows
kept : (all : ℕ) (rows new : List ℕ) (b s : ℕ) → set_at new b ≡ set_at rows b → HoldsSet all rows b s → HoldsSet all new b s
kept all rows new b s same was = (same ∙ was.0, ap (λ (x : ℕ). within x all) same ∙ was.1)

-- the set at place b is put now
new-set : (all : ℕ) (new : List ℕ) (b p s : ℕ) → set_at new b ≡ p → p ≡ s → within p all ≡ true → HoldsSet all new b s
new-set all new b p s is are fits = (is ∙ are, ap (λ (x : ℕ). within x all) is ∙ fits)

-- a union of four sets is inside t
all-within : (a b c d t : ℕ) → within (union (union a b) (union c d)) t ≡ true
    → ((within a t ≡ true) × (within b t ≡ true)) × ((within c t ≡ true) × (within d t ≡ true))
all-within a b c d t w = (
  (
    within-trans a (union a b) t (within-union-left a b) left,
    within-trans b (union a b) t (within-union-right a b) left,
  ),
  (
    within-trans c (union c d) t (within-union-left c d) right,
    within-trans d (union c d) t (within-union-right c d) right,
  ),
)
  where
    left : within (union a b) t ≡ true
    left = within-trans (union a b) (union (union a b) (union c d)) t (within-union-left (union a b) (union c d)) w

    right : within (union c d) t ≡ true
    right = within-trans (union c d) (union (union a b) (union c d)) t (within-union-right (union a b) (union c d)) w

module _ (all : ℕ) (l : Users) (bytes : List ℕ) (from i : ℕ) (sets : GroupSets) (rows new : List ℕ) (h : i < 16) (so : Filled all l bytes from i rows)
    (are : SetsAre l bytes (from + i) sets) (put : UserPut i sets rows new) where
  -- the sets of the users before stay, at place `first` + k
  stays : (first k s : ℕ) → first < 64 → first / 16 * 16 ≡ first → k < i → HoldsSet all rows (first + k) s → HoldsSet all new (first + k) s
  stays first k s low whole less was =
      kept all rows new (first + k) s
      (put.other (first + k) (omega arith) (omega arith) (omega arith) (omega arith) (omega arith)) was

  first-stays : (k s : ℕ) → k < i → HoldsSet all rows k s → HoldsSet all new k s
  first-stays k s less was = kept all rows new k s (put.other k (omega arith) (omega arith) (omega arith) (omega arith) (omega arith)) was

  next-filled : within (union (union (places_of sets.read) (places_of sets.write)) (union (places_of sets.default) (places_of sets.row))) all ≡ true
      → Filled all l bytes from (i + 1) new
  next-filled fit =
      let inside = all-within (places_of sets.read) (places_of sets.write) (places_of sets.default) (places_of sets.row) all fit in
      record {
        size = put.size;
        read =
            below_more (λ (k : ℕ). HoldsSet all new k (user_set l bytes read_groups (from + k))) i (λ k m. first-stays k _ m (so.read k m))
            (new-set all new i _ _ put.read are.read inside.0.0);
        write =
            below_more (λ (k : ℕ). HoldsSet all new (16 + k) (user_set l bytes write_groups (from + k))) i
            (λ k m. stays 16 k _ (omega arith) refl m (so.write k m)) (new-set all new (16 + i) _ _ put.write are.write inside.0.1);
        default =
            below_more (λ (k : ℕ). HoldsSet all new (32 + k) (user_set l bytes default_groups (from + k))) i
            (λ k m. stays 32 k _ (omega arith) refl m (so.default k m)) (new-set all new (32 + i) _ _ put.default are.default inside.1.0);
        row =
            below_more (λ (k : ℕ). HoldsSet all new (48 + k) (user_set l bytes row_groups (from + k))) i
            (λ k m. stays 48 k _ (omega arith) refl m (so.row k m)) (new-set all new (48 + i) _ _ put.row are.row inside.1.1);
      }

-- one turn: the sets are those of the next user, they fit, and they are put
pub fill-next : (all : ℕ) (l : Users) (bytes : List ℕ) (from i : ℕ) (sets : GroupSets) (rows new : List ℕ) (fits : Bool) → i < 16
    → Filled all l bytes from i rows → SetsAre l bytes (from + i) sets
    → fits ≡ of_sets (λ read write default row. within (union (union read write) (union default row)) all) sets → fits ≡ true → UserPut i sets rows new
    → Filled all l bytes from (i + 1) new
fill-next all l bytes from i sets rows new fits h so are is good put = next-filled all l bytes from i sets rows new h so are put (sym is ∙ good)

-- all sets are inside
pub filled-fit : (all : ℕ) (l : Users) (bytes : List ℕ) (from count : ℕ) (rows : List ℕ) → all ≡ all_below count → Filled all l bytes from 16 rows
    → RowsFit count rows
filled-fit all l bytes from count rows is so b h =
    ap (within (set_at rows b)) (sym is) ∙ at (ltb b 16) refl (ltb b 32) refl (ltb b 48) refl
  where
    Fits : ℕ → Type 0
    Fits k = within (set_at rows k) all ≡ true

    at : (s : Bool) → ltb b 16 ≡ s → (t : Bool) → ltb b 32 ≡ t → (r : Bool) → ltb b 48 ≡ r → Fits b
    at true x t y r z = (so.read b (ltb-true b 16 x)).1
    at false x true y r z =
        let low = ltb-false b 16 x in
        let high = ltb-true b 32 y in
        let same : 16 + (b - 16) ≡ b = omega arith in
        subst Fits same (so.write (b - 16) (omega arith)).1
    at false x false y true z =
        let low = ltb-false b 32 y in
        let high = ltb-true b 48 z in
        let same : 32 + (b - 32) ≡ b = omega arith in
        subst Fits same (so.default (b - 32) (omega arith)).1
    at false x false y false z =
        let low = ltb-false b 48 z in
        let same : 48 + (b - 48) ≡ b = omega arith in
        subst Fits same (so.row (b - 48) (omega arith)).1
