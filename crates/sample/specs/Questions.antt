-- The questions of document 01's cases, and how each is answered of an image of the sample co-operative: by the definitions that the
-- contracts of the public calls cite, told in the numbers of document 01.
use Rattle.std.specs.Prelude.{ℕ, cond, List, [], ◌∷◌, take, replicate, Ok, Err}
use Rattle.refusals.specs.Refusals.{number_of, values_of}
use Rattle.refusals.specs.declared.Refusal.{Refusal}
use Rattle.image.specs.Lookup.{label_of_tag}
use Rattle.refusals.specs.Answers.{on_checked, Amount, Checked, Verdict}
use Rattle.labels.specs.Label.{Marks, label_at}
use Rattle.labels.specs.Parse as parse
use Rattle.printing.specs.Print.{text_of, print_of}
use Rattle.dominance.specs.TwoLabels as merging
use Rattle.access.specs.Verdicts.{known_tag}
use Rattle.sessions.specs.Session.{SessionMarks}
use Rattle.sessions.specs.Opening as opening
use Rattle.sessions.specs.Changes.{set_label_of}
use Rattle.sessions.specs.Asking.{may_read_of, may_write_of}
use Rattle.encoding.specs.Sessions.{session_bytes}
use Rattle.encoding.specs.Verdicts.{verdict_code}
use Rattle.sample.specs.Pieces.{mara}

-- ---- questions and what is told
pub data Question : Type 0 where
  -- may MARA, when she has opened her session, read and write a row of that tag?
  of_row : ℕ → Question
  -- does her session take the label that the text names?
  new_label : List ℕ → Question
  -- how is the label printed that two texts' labels give, merged by the letters?
  merged : List ℕ → List ℕ → List ℕ → Question
  -- how is the label printed that the text names?
  printed : List ℕ → Question

pub data Told : Type 0 where
  -- the text of the row's label, and the verdicts on reading and writing: 1 yes, 0 no
  verdicts : List ℕ → ℕ → ℕ → Told
  -- done, with the bytes of the session or of the text
  done : List ℕ → Told
  -- refused, with the number and its values; and the bytes of the session as it is then
  refused : List ℕ → List ℕ → Told

-- ---- how a question is answered
-- a refusal's number and values by the table of document 01
abbrev refused_by : Refusal → List ℕ → Told
refused_by r session = refused (number_of r ∷ values_of r) session

-- what is asked of the session that opens
abbrev pub on_opening : opening.Opening → (SessionMarks → Told) → Told
on_opening (opening.session s) ask = ask s
on_opening (opening.refused r) ask = refused_by r []

-- the text of the label that the tag carries; tag 0 has none
abbrev pub text_of_tag : List ℕ → ℕ → List ℕ
text_of_tag im tag = cond (known_tag im tag) (text_of im (label_at im (label_of_tag im tag))) []

abbrev pub told_verdicts : List ℕ → ℕ → Verdict → Verdict → Told
told_verdicts im tag read write = verdicts (text_of_tag im tag) (verdict_code read) (verdict_code write)

-- the session comes back changed or as it was
abbrev pub told_change : SessionMarks × Checked → Told
told_change c = on_checked c.1 (λ r. refused_by r (session_bytes c.0)) (done (session_bytes c.0))

-- what is asked of the label that a text names, or that a merge gives
abbrev pub on_label : parse.Parsing → (Marks → Told) → Told
on_label (Ok m) ask = ask m
on_label (Err r) ask = refused_by r []

abbrev pub on_merged : merging.Merging → (Marks → Told) → Told
on_merged (Ok m) ask = ask m
on_merged (Err r) ask = refused_by r []

-- as many bytes of the buffer as the print reports
abbrev told_bytes : Amount → List ℕ → Told
told_bytes (Ok n) buffer = done (take n buffer)
told_bytes (Err r) buffer = refused_by r []

abbrev pub told_print : Amount × List ℕ → Told
told_print p = told_bytes p.0 p.1

-- that labels are printed into
abbrev pub buffer : List ℕ
buffer = replicate 64 0

-- what an image gives for a question
unfoldable pub answer : List ℕ → Question → Told
answer im (of_row tag) =
    on_opening (opening.open_of im mara) (λ s. told_verdicts im tag (may_read_of im s tag) (may_write_of im s tag))
answer im (new_label text) = on_opening (opening.open_of im mara) (λ s. told_change (set_label_of im s text))
answer im (merged text1 text2 letters) =
    on_label (parse.parse_of im text1)
    (λ a. on_label (parse.parse_of im text2) (λ b. on_merged (merging.merge_of a b letters) (λ m. told_print (print_of im m buffer))))
answer im (printed text) = on_label (parse.parse_of im text) (λ m. told_print (print_of im m buffer))
