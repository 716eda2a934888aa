-- Dominance, which is lent the image; and merging, which is lent none.
use Rattle.std.specs.Prelude.{ℕ, List, Ok, Err}
use Rattle.refusals.specs.Answers.{Given, done, refusal_given}
use Rattle.dominance.specs.TwoLabels.{dominates_of, strictly_dominates_of, Merging, merge_of}
use Rattle.encoding.specs.Labels.{label_bytes, label_in}
use Rattle.encoding.specs.Verdicts.{verdict_code}
use Rattle.abi.specs.Answers.{coded}

-- ---- `brawnesk_dominates`, `brawnesk_strictly_dominates`: 1 yes, 0 no
abbrev pub dominates_answer : List ℕ → List ℕ → List ℕ → ℕ
dominates_answer im bytes1 bytes2 = verdict_code (dominates_of im (label_in bytes1) (label_in bytes2))

abbrev pub strictly_dominates_answer : List ℕ → List ℕ → List ℕ → ℕ
strictly_dominates_answer im bytes1 bytes2 = verdict_code (strictly_dominates_of im (label_in bytes1) (label_in bytes2))

-- ---- `brawnesk_merge`: the answer, and the label's bytes after it
-- what merging gives back: 0 where there is a label
abbrev pub merged_given : Merging → Given
merged_given (Ok m) = done 0
merged_given (Err r) = refusal_given r

-- and the bytes that it leaves: the label's, or as they were
abbrev pub merged_into : Merging → List ℕ → List ℕ
merged_into (Ok m) old = label_bytes m
merged_into (Err r) old = old

abbrev pub merge_answer : List ℕ → List ℕ → List ℕ → List ℕ → ℕ × List ℕ
merge_answer bytes1 bytes2 letters old =
    let merged = merge_of (label_in bytes1) (label_in bytes2) letters in coded merged_given (merged, merged_into merged old)
