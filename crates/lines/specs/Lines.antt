-- The report: for each user and each label record, a line with the user's name, the tag and the verdicts at the session that opens
-- for that user; for a refused image, one line with the refusal.
use Rattle.std.specs.Prelude.{ℕ, zero, suc, ◌^◌, Bool, cond, List, [], ◌∷◌, ◌++◌, eqb, ltb}
use Rattle.io.specs.Digits.{last_digits}
use Rattle.fields.specs.Scan.{first_where}
use Rattle.refusals.specs.declared.Refusal.{Refusal}
use Rattle.refusals.specs.Refusals.{number_of, values_of}
use Rattle.header.specs.Layout.{users, labels, user_record, label_record}
use Rattle.records.specs.Fields.{tag_of, user_name}
use Rattle.image.specs.Check.{check_of}
use Rattle.refusals.specs.Answers.{on_checked}
use Rattle.labels.specs.Label.{Marks, label_at}
use Rattle.access.specs.Rights.{Rights}
use Rattle.access.specs.Verdicts.{reads_label, writes_label}
use Rattle.sessions.specs.Session.{session_rights}
use Rattle.sessions.specs.Opening.{default_session}

-- ---- bytes
abbrev pub space : ℕ
space = 32

abbrev pub newline : ℕ
newline = 10

-- the letter where it is granted, `-` where it is denied
abbrev pub grant_letter : Bool → ℕ → ℕ
grant_letter granted letter = cond granted letter 45

-- ---- a number
-- how many digits it has: the fewest that hold it, and at least one. (The numbers here are below 2 ^ 64 and have at most 20.)
unfoldable pub digit_count : ℕ → ℕ
digit_count n = first_where (λ k. ltb n (10 ^ k)) 20 1

-- in decimal, without leading zeros
unfoldable pub decimal : ℕ → List ℕ
decimal n = last_digits 10 (digit_count n) n

-- ---- a line: NAME TAG rw
-- `r` or `-`, then `w` or `-`
abbrev pub verdict_text : Bool → Bool → List ℕ
verdict_text reads writes = grant_letter reads 114 ∷ grant_letter writes 119 ∷ []

-- a space, the verdicts on a label, and the line's end
unfoldable pub ending : Rights → Marks → List ℕ
ending rights label = space ∷ verdict_text (reads_label rights label) (writes_label rights label) ++ (newline ∷ [])

-- the line of the user at place u and the k-th label record, at the session that opens for the user
unfoldable pub line_at : List ℕ → ℕ → ℕ → List ℕ
line_at im u k =
    user_name (user_record im u) ++ (space ∷ decimal (tag_of (label_record im k)))
    ++ ending (session_rights im (default_session im u)) (label_at im k)

-- ---- the report
-- the user's lines of the n label records from k on
unfoldable pub lines_from : List ℕ → ℕ → ℕ → ℕ → List ℕ
lines_from im u zero k = []
lines_from im u (suc n) k = line_at im u k ++ lines_from im u n (suc k)

-- the lines of the n users from u on
unfoldable pub users_from : List ℕ → ℕ → ℕ → List ℕ
users_from im zero u = []
users_from im (suc n) u = lines_from im u (labels im) 0 ++ users_from im n (suc u)

-- by user and then tag: label records stand by rising tag
unfoldable pub report_of : List ℕ → List ℕ
report_of im = users_from im (users im) 0

-- ---- the line of a refusal: `refused 31`, `refused 2 at block 0`, `refused 32 at block 1 record 0`, `refused 35 at group 2`
abbrev pub refused_text : List ℕ
refused_text = 114 ∷ 101 ∷ 102 ∷ 117 ∷ 115 ∷ 101 ∷ 100 ∷ 32 ∷ []

-- ` at block `
abbrev pub block_text : List ℕ
block_text = 32 ∷ 97 ∷ 116 ∷ 32 ∷ 98 ∷ 108 ∷ 111 ∷ 99 ∷ 107 ∷ 32 ∷ []

-- ` record `
abbrev pub record_text : List ℕ
record_text = 32 ∷ 114 ∷ 101 ∷ 99 ∷ 111 ∷ 114 ∷ 100 ∷ 32 ∷ []

-- ` at group `
abbrev pub group_text : List ℕ
group_text = 32 ∷ 97 ∷ 116 ∷ 32 ∷ 103 ∷ 114 ∷ 111 ∷ 117 ∷ 112 ∷ 32 ∷ []

-- ` at offset `, for 6 and 7, which no image is refused with
abbrev pub offset_text : List ℕ
offset_text = 32 ∷ 97 ∷ 116 ∷ 32 ∷ 111 ∷ 102 ∷ 102 ∷ 115 ∷ 101 ∷ 116 ∷ 32 ∷ []

-- ` holders `, for 36, which no image is refused with by itself
abbrev pub holders_text : List ℕ
holders_text = 32 ∷ 104 ∷ 111 ∷ 108 ∷ 100 ∷ 101 ∷ 114 ∷ 115 ∷ 32 ∷ []

-- what stands before the one value of a number: with 2 it is a block, with 35 a group, with 36 a number of users, with the others an offset
abbrev pub value_text : ℕ → List ℕ
value_text number = cond (eqb number 2) block_text (cond (eqb number 35) group_text (cond (eqb number 36) holders_text offset_text))

-- the values returned with the number; two are a block and a record
abbrev pub place_text : ℕ → List ℕ → List ℕ
place_text number [] = []
place_text number (value ∷ []) = value_text number ++ decimal value
place_text number (block ∷ slot ∷ more) = block_text ++ decimal block ++ (record_text ++ decimal slot)

unfoldable pub refused_line : Refusal → List ℕ
refused_line r = refused_text ++ decimal (number_of r) ++ place_text (number_of r) (values_of r) ++ (newline ∷ [])

-- what the program writes for an image
unfoldable pub output_of : List ℕ → List ℕ
output_of im = on_checked (check_of im) refused_line (report_of im)
