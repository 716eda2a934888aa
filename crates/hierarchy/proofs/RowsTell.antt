-- What the lowest bad user of each sixteen tells of all users. Assumes nothing.
use Prim.Native.Nat.{ℕ, ◌+◌, ◌-◌, ◌≤◌, ◌<◌}
use mathlib.Core.Path.{◌≡◌, refl, sym, ap, ◌∙◌}
use mathlib.Core.Bool.{Bool, true, false, true≢false}
use mathlib.Core.List.{List}
use native.Mathlib.Omega.{arith}
use borrow.Author.Tests.{ltb-true, ltb-false}
use lib.Dec.{ltb}
use Rattle.fields.specs.Scan.{first_bad}
use Rattle.fields.proofs.Scan.{good-before, bad-at, bad-is, all-good}
use Rattle.sets.specs.Sets.{all_below}
use Rattle.sets.proofs.Within.{within_none}
use Rattle.header.specs.declared.profile.Profile.TheVariants.{Tree}
use Rattle.records.specs.Fields.{read_groups, write_groups, default_groups, row_groups}
use Rattle.hierarchy.specs.declared.users.Users.{Users}
use Rattle.hierarchy.specs.Forest.{Forest}
use Rattle.hierarchy.specs.Below.{below_sets, record_sets}
use Rattle.hierarchy.specs.Users.{user_rule, first_bad_user}
use Rattle.hierarchy.specs.SetRows.{rows_rule}
use Rattle.hierarchy.specs.UserRows.{user_set, plain_sets, PlainUpto, Filled}
use Rattle.hierarchy.proofs.UsersInRows.{user-there, user-none, plain-below}

module _ (f : Forest) (all : ℕ) (is : all ≡ all_below f.count) (l : Users) (bytes : List ℕ) where
  abbrev rule : ℕ → Bool
  rule = user_rule Tree f l bytes

  -- the users before `end` are good
  abbrev Good : ℕ → Type 0
  Good end = (u : ℕ) → u < end → u < l.count → user_rule Tree f l bytes u ≡ true

  by-user : (u : ℕ) → u < l.count
      → below_sets f (user_set l bytes read_groups u) (user_set l bytes write_groups u) (user_set l bytes default_groups u) (user_set l bytes row_groups u)
      ≡ rule u
  unfolding record_sets
  by-user u h =
      rw (user-there l bytes u read_groups h, user-there l bytes u write_groups h, user-there l bytes u default_groups h, user-there l bytes u row_groups h)

  -- users whose sets lie within one another as they stand are good
  pub good-upto : (m end : ℕ) → Good m → PlainUpto all l bytes m end → Good end
  good-upto m end good so u h k = at (ltb u m) refl
    where
      at : (t : Bool) → ltb u m ≡ t → rule u ≡ true
      at true e = good u (ltb-true u m e) k
      at false e =
          sym (by-user u k)
          ∙ plain-below f (user_set l bytes read_groups u) (user_set l bytes write_groups u) (user_set l bytes default_groups u) (user_set l bytes row_groups u)
          (ap (λ (s : ℕ). plain_sets s (user_set l bytes read_groups u) (user_set l bytes write_groups u) (user_set l bytes default_groups u)
          (user_set l bytes row_groups u)) (sym is)
          ∙ so.plain u (ltb-false u m e) h)

  -- ---- sixteen users at once
  module _ (from : ℕ) (rows : List ℕ) (so : Filled all l bytes from 16 rows) where
    -- by the sets of the user
    by-sets : (i : ℕ) → i < 16
        → rows_rule f rows i
        ≡ below_sets f (user_set l bytes read_groups (from + i)) (user_set l bytes write_groups (from + i)) (user_set l bytes default_groups (from + i))
        (user_set l bytes row_groups (from + i))
    by-sets i h = rw ((so.read i h).0, (so.write i h).0, (so.default i h).0, (so.row i h).0)

    user-rule : (i : ℕ) → i < 16 → from + i < l.count → rows_rule f rows i ≡ rule (from + i)
    user-rule i h k = by-sets i h ∙ by-user (from + i) k

    no-user : (i : ℕ) → i < 16 → l.count ≤ from + i → rows_rule f rows i ≡ true
    unfolding below_sets
    no-user i h k =
        by-sets i h ∙ rw (
          user-none l bytes (from + i) read_groups k,
          user-none l bytes (from + i) write_groups k,
          user-none l bytes (from + i) default_groups k,
          user-none l bytes (from + i) row_groups k,
          within_none,
        )

    -- the users before are all good
    module _ (good : Good from) (i : ℕ) (lowest : i ≡ first_bad (rows_rule f rows) 16 0) where
      good-until : (u : ℕ) → u < from + i → u < from + 16 → u < l.count → rule u ≡ true
      good-until u h k m = at (ltb u from) refl
        where
          at : (t : Bool) → ltb u from ≡ t → rule u ≡ true
          at true e = good u (ltb-true u from e) m
          at false e =
              let low = ltb-false u from e in
              let same : from + (u - from) ≡ u = omega arith in
              let inside : u - from < 16 = omega arith in
              let before : u - from < first_bad (rows_rule f rows) 16 0 = omega (arith, lowest) in
              ap rule (sym same) ∙ sym (user-rule (u - from) inside (omega arith)) ∙ good-before (rows_rule f rows) 16 0 (u - from) (omega arith) before

      pub rows-good : 16 ≤ i → Good (from + 16)
      rows-good h u k m = good-until u (omega arith) k m

      pub rows-bad : i < 16 → from + i ≡ first_bad_user Tree f l bytes
      rows-bad h =
          let there = inside (ltb (from + i) l.count) refl in
          sym (bad-is rule l.count 0 (from + i) (omega arith) (omega (arith, there))
          (λ u low k. good-until u k (omega arith) (omega (arith, there)))
          (sym (user-rule i h there) ∙ bad))
        where
          bad : rows_rule f rows i ≡ false
          bad =
              let m : first_bad (rows_rule f rows) 16 0 < 0 + 16 = omega (arith, lowest) in
              ap (rows_rule f rows) lowest ∙ bad-at (rows_rule f rows) 16 0 m

          inside : (t : Bool) → ltb (from + i) l.count ≡ t → from + i < l.count
          inside true e = ltb-true (from + i) l.count e
          inside false e = absurd (true≢false (sym (no-user i h (ltb-false (from + i) l.count e)) ∙ bad))

  -- every user is good
  pub rows_end : (from : ℕ) → l.count ≤ from → Good from → l.count ≡ first_bad_user Tree f l bytes
  rows_end from h good =
      let all_are : first_bad rule l.count 0 ≡ 0 + l.count = all-good rule l.count 0 (λ u low k. good u (omega arith) (omega arith)) in
      omega (arith, all_are)
