-- Two labels: dominance under a policy, and merging. Merging takes no image: levels, compartments and groups are merged as they are listed.
use Rattle.std.specs.Prelude.{ℕ, min, max, Bool, cond, not, ◌&&◌, ◌||◌, List, eqb, leb, length, Result, Ok, Err}
use Rattle.fields.specs.Bytes.{byte_at}
use Rattle.refusals.specs.declared.Refusal.{Refusal}
use Rattle.refusals.specs.declared.Refusal.TheVariants.{MergeLetters, NoComponent}
use Rattle.refusals.specs.Answers.{on_checked, or_refuse, Checked, Verdict}
use Rattle.sets.specs.Sets.{none, union, intersection, difference, within}
use Rattle.header.specs.Layout.{profile_of}
use Rattle.hierarchy.specs.Below.{reach}
use Rattle.image.specs.Check.{check_of}
use Rattle.labels.specs.declared.label.Label.{Label}
use Rattle.labels.specs.Label.{Marks, marks_of, label_exists}
use Rattle.labels.specs.GroupTest.{group_test}

-- ---- dominance
-- label 1's level is at least as high
unfoldable pub dominates_level : Marks → Marks → Bool
dominates_level a b = leb b.level a.level

-- it has all compartments of label 2
unfoldable pub dominates_compartments : Marks → Marks → Bool
dominates_compartments a b = within b.compartments a.compartments

-- label 2 has no groups, or one of them lies in below(groups of label 1); in the release profile all groups of label 1 are among label 2's: the
-- test by which a session reads
unfoldable pub dominates_groups : List ℕ → Marks → Marks → Bool
dominates_groups im a b = group_test (profile_of im) (reach im a.groups) b.groups

-- label 1 dominates label 2
unfoldable pub dominates : List ℕ → Marks → Marks → Bool
dominates im a b = dominates_level a b && dominates_compartments a b && dominates_groups im a b

unfoldable pub same_label : Marks → Marks → Bool
same_label a b = eqb a.level b.level && eqb a.compartments b.compartments && eqb a.groups b.groups

-- strictly: and the labels differ
unfoldable pub strictly_dominates : List ℕ → Marks → Marks → Bool
strictly_dominates im a b = dominates im a b && not (same_label a b)

-- ---- the answers of `dominates` and `strictly_dominates`
-- 1, 2, 31 to 35; then 18 where either label names a component that the policy lacks
unfoldable pub compared_answer : List ℕ → Marks → Marks → Checked
compared_answer im a b = on_checked (check_of im) Err (or_refuse (label_exists im a && label_exists im b) NoComponent (Ok tt))

unfoldable pub dominates_of : List ℕ → Marks → Marks → Verdict
dominates_of im a b = on_checked (compared_answer im a b) Err (Ok (dominates im a b))

unfoldable pub strictly_dominates_of : List ℕ → Marks → Marks → Verdict
strictly_dominates_of im a b = on_checked (compared_answer im a b) Err (Ok (strictly_dominates im a b))

-- ---- merging
-- the letters H and L; U, I, M and N
abbrev pub letter_h : ℕ
letter_h = 72

abbrev pub letter_l : ℕ
letter_l = 76

abbrev pub letter_u : ℕ
letter_u = 85

abbrev pub letter_i : ℕ
letter_i = 73

abbrev pub letter_m : ℕ
letter_m = 77

abbrev pub letter_n : ℕ
letter_n = 78

abbrev pub level_letter : ℕ → Bool
level_letter x = eqb x letter_h || eqb x letter_l

abbrev pub set_letter : ℕ → Bool
set_letter x = eqb x letter_u || eqb x letter_i || eqb x letter_m || eqb x letter_n

-- level H or L: the higher, the lower
unfoldable pub merge_levels : ℕ → ℕ → ℕ → ℕ
merge_levels letter a b = cond (eqb letter letter_h) (max a b) (min a b)

-- U union, I intersection, M the first without the second, N none
unfoldable pub merge_sets : ℕ → ℕ → ℕ → ℕ
merge_sets letter a b =
    cond (eqb letter letter_u) (union a b) (cond (eqb letter letter_i) (intersection a b) (cond (eqb letter letter_m) (difference a b) none))

-- ---- the answer of `merge`
abbrev pub Merging : Type 0
Merging = Result Marks Refusal

-- exactly three letters, each of those allowed at its place
unfoldable pub letters_rule : List ℕ → Bool
letters_rule letters =
    eqb (length letters) 3 && level_letter (byte_at letters 0) && set_letter (byte_at letters 1) && set_letter (byte_at letters 2)

-- a letter each for level, compartments and groups
unfoldable pub merged_label : Marks → Marks → List ℕ → Marks
merged_label a b letters =
    record {
      level = merge_levels (byte_at letters 0) a.level b.level;
      compartments = merge_sets (byte_at letters 1) a.compartments b.compartments;
      groups = merge_sets (byte_at letters 2) a.groups b.groups;
    }

-- the only refusal is 17
unfoldable pub merge_of : Marks → Marks → List ℕ → Merging
merge_of a b letters = cond (letters_rule letters) (Ok (merged_label a b letters)) (Err MergeLetters)

-- what an answer of the code stands for
abbrev pub merging_of : Result Label Refusal → Merging
merging_of (Ok l) = Ok (marks_of l)
merging_of (Err r) = Err r
