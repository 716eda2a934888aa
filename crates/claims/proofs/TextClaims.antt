-- The main theorems on small letters in label text (request R-9), each stated in full over definitions of specs. Assumes nothing.
use Prim.Native.Nat.{ℕ, ◌≤◌, ◌<◌}
use mathlib.Core.Path.{◌≡◌, sym, ap, ◌∙◌}
use mathlib.Core.Bool.{true}
use mathlib.Core.Logic.{◌↔◌}
use mathlib.Core.List.{List}
use Rattle.fields.specs.Names.{all_name_bytes, folded_name}
use Rattle.fields.proofs.Folding.{folded-name}
use Rattle.image.specs.Check.{IsAccepted}
use Rattle.labels.specs.Label.{Marks, label_exists}
use Rattle.labels.specs.Parse.{read, of_text, class_count, place_of_name, parse_of}
use Rattle.labels.proofs.Letters.{place-folded, read_alike}
use Rattle.printing.specs.Print.{name_at, text_of}
use Rattle.roundtrip.proofs.OwnNames.{place-of-own-name, place_found}
use Rattle.roundtrip.proofs.RoundTrip.{parse-of-print}
use Rattle.sessions.specs.Session.{SessionMarks}
use Rattle.sessions.specs.Changes.{label_change, row_label_change, set_label_of, set_row_label_of}

-- Names of an image's alphabet, which has no small letters, are taken as they are.
pub capitals-stay : (name : List ℕ) → all_name_bytes name ≡ true → folded_name name ≡ name
capitals-stay = folded-name

-- In an accepted image a name of a text is that of the component at place p exactly if it is its name with small letters taken as capitals.
pub name-found : (im : List ℕ) → IsAccepted im → (class : ℕ) → 1 ≤ class → class ≤ 3 → (p : ℕ) → p < class_count im class → (name : List ℕ)
    → (place_of_name im class name ≡ p) ↔ (folded_name name ≡ name_at im class p)
name-found im acc class low high p h name = (
  (λ e. place_found im class p h name e),
  (λ e. sym (place-folded im class name) ∙ ap (place_of_name im class) e ∙ place-of-own-name im acc class low high p h),
)

-- Two texts that differ only in which letters are small are read alike: they give the same label, or the same refusal with the same offset.
pub parse-letters : (im text other : List ℕ) → folded_name text ≡ folded_name other → parse_of im text ≡ parse_of im other
unfolding parse_of
parse-letters im text other e = rw (read_alike im text other e)

-- So they change either label of a session alike.
pub set-label-letters : (im : List ℕ) (s : SessionMarks) (text other : List ℕ) → folded_name text ≡ folded_name other
    → set_label_of im s text ≡ set_label_of im s other
unfolding set_label_of label_change
set-label-letters im s text other e = rw (read_alike im text other e)

pub set-row-label-letters : (im : List ℕ) (s : SessionMarks) (text other : List ℕ) → folded_name text ≡ folded_name other
    → set_row_label_of im s text ≡ set_row_label_of im s other
unfolding set_row_label_of row_label_change
set-row-label-letters im s text other e = rw (read_alike im text other e)

-- The print of a label, in whatever letters it is typed again, reads as that label.
pub print-letters : (im : List ℕ) → IsAccepted im → (m : Marks) → label_exists im m ≡ true → (text : List ℕ) → folded_name text ≡ folded_name (text_of im m)
    → parse_of im text ≡ of_text (read m)
print-letters im acc m exists text e = parse-letters im text (text_of im m) e ∙ parse-of-print im acc m exists
