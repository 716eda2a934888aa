-- Request R-1: the answers of `write`, `component_records`, `label_records` and `user_records`, and the lent buffer after each.
use Rattle.std.specs.Prelude.{ℕ, Result, Ok, Err}
use mathlib.Core.List.{List, flatten}
use Rattle.refusals.specs.Answers.{on_checked, Given, Amount, done, refusal_given}
use Rattle.buffers.specs.Filling.{unfilled, written_to}
use Rattle.header.specs.declared.layout.Kind.{Kind}
use Rattle.header.specs.declared.layout.Kind.TheVariants.{Component}
use Rattle.header.specs.Layout.{edition_named, profile_named, records_of}
use Rattle.image.specs.Check.{check_of}
use Rattle.writing.specs.declared.answers.LentFault.{LentFault}
use Rattle.writing.specs.declared.answers.WriteRefusal.{WriteRefusal}
use Rattle.writing.specs.declared.answers.WriteRefusal.TheVariants.{Lent, Buffer}
use Rattle.writing.specs.Laid.{image_of}
use Rattle.writing.specs.Lent.{bytes_by, lent_records, lent_counts, LentCheck, lent_check, fault_given}

-- ---- `write`: 31 to 35, then 13
-- the image that is laid out from what is lent
unfoldable pub lent_image : ℕ → ℕ → (Kind → List ℕ) → List ℕ
lent_image edition profile bytes =
    let records = lent_records (edition_named edition) bytes in
    image_of (lent_counts (edition_named edition) (profile_named profile) (records Component)) records

-- the image's length, or why no image is written
abbrev pub WriteAnswer : Type 0
WriteAnswer = Result ℕ WriteRefusal

-- what is given where no rule is broken; else what the fault gives
abbrev pub on_sound : {A : Type 0} → LentCheck → (LentFault → A) → A → A
on_sound (Ok sound) refuse answer = answer
on_sound (Err fault) refuse answer = refuse fault

-- the answer of the buffer as the writer's
abbrev pub written_answer : Amount → WriteAnswer
written_answer (Ok n) = Ok n
written_answer (Err r) = Err (Buffer r)

-- the image at the buffer's front, and its length; 13 where the buffer is shorter. Later bytes stay
abbrev pub image_to : List ℕ → List ℕ → WriteAnswer × List ℕ
image_to buffer image = let written = written_to buffer image in (written_answer written.0, written.1)

unfoldable pub write_of : ℕ → ℕ → List ℕ → List ℕ → List ℕ → List ℕ → WriteAnswer × List ℕ
write_of edition profile components labels users buffer =
    let bytes = bytes_by components labels users in
    on_sound (lent_check edition profile bytes) (λ fault. (Err (Lent fault), buffer)) (image_to buffer (lent_image edition profile bytes))

-- what is given back: the image's length, 13, or what the fault gives
abbrev pub write_given : WriteAnswer → Given
write_given (Ok n) = done n
write_given (Err (Lent fault)) = fault_given fault
write_given (Err (Buffer r)) = refusal_given r

-- ---- `component_records`, `label_records`, `user_records`: 1, 2, 31 to 35, then 13
-- an accepted image taken apart: the records of a kind as the writer takes them, at the buffer's front
unfoldable pub records_given_of : Kind → List ℕ → List ℕ → Amount × List ℕ
records_given_of kind im buffer = on_checked (check_of im) (unfilled buffer) (written_to buffer (flatten (records_of im kind)))
