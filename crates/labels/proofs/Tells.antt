-- What a reading, or an answer of `parse`, that gives something tells. Assumes nothing.
use Rattle.std.proofs.Common.{Result, Ok, Err, arith}
use Prim.Native.Nat.{ℕ}
use mathlib.Core.Path.{◌≡◌, ◌∙◌, refl, sym, ap}
use mathlib.Core.Bool.{Bool, true, false, cond, ◌&&◌, true≢false}
use mathlib.Core.List.{List}
use mathlib.Core.Logic.{◌⊎◌, inl, inr}
use Rattle.std.specs.Prelude.{ltb}
use Rattle.refusals.specs.declared.Refusal.{Refusal}
use Rattle.refusals.specs.Refusals.{number_of}
use Rattle.refusals.specs.Answers.{on_checked, Checked}
use Rattle.header.specs.Limits.{limits_of}
use Rattle.image.specs.declared.faults.Fault.{Fault}
use Rattle.image.specs.declared.faults.Fault.TheVariants.{Length, Block, Layout, Component, Label, User, Ring, Below}
use Rattle.image.specs.Faults as fault
use Rattle.image.specs.Faults.{Inspection, shown_as}
use Rattle.image.specs.Check.{check_of, fault_of, IsAccepted}
use Rattle.labels.specs.declared.answers.Reason.{Reason}
use Rattle.labels.specs.declared.answers.Reason.TheVariants.{Shape, Unknown, Repeated}
use Rattle.labels.specs.Label.{Marks}
use Rattle.labels.specs.Text.{colon, split, shape_rule}
use Rattle.labels.specs.Parse.{Reading, read, refused, then_read, read_parts, read_text, Parsing, of_text, parse_of, refusal_of}

-- ---- a reading
abbrev is_read : {A : Type 0} → Reading A → Bool
is_read (read x) = true
is_read (refused reason) = false

abbrev read_or : {A : Type 0} → A → Reading A → A
read_or other (read x) = x
read_or other (refused reason) = other

pub refused-not-read : {A : Type 0} (reason : Reason) (x : A) → refused reason ≡ read x → ⊥
refused-not-read reason x e = true≢false (sym (ap is_read e))

pub read-tells : {A : Type 0} (x y : A) → read x ≡ read y → x ≡ y
read-tells x y e = ap (read_or x) e

-- where reading on gives something, so did what came before
pub then-read : {A B : Type 0} (first : Reading A) (next : A → Reading B) (y : B) → then_read first next ≡ read y
    → (x : A) × ((first ≡ read x) × (next x ≡ read y))
then-read (read x) next y e = (x, (refl, e))
then-read (refused reason) next y e = absurd (refused-not-read reason y e)

not-ok : {A : Type 0} {m : A} (r : Refusal) → ◌≡◌ {A = Result A Refusal} (Err r) (Ok m) → ⊥
not-ok {A} {m} r e = let z : ◌≡◌ {A = ℕ} 0 1 = cc in absurd (omega arith)

-- ---- a text
-- one that is read has the shape, and its parts are read
pub text-parts : (im text : List ℕ) (m : Marks) → read_text im text ≡ read m → read_parts im (split colon text) ≡ read m
text-parts im text m = at (shape_rule (limits_of im).text text)
  where
    at : (t : Bool) → cond t (read_parts im (split colon text)) (refused Shape) ≡ read m → read_parts im (split colon text) ≡ read m
    at true e = e
    at false e = absurd (refused-not-read Shape m e)

-- ---- an answer of `parse`
-- is the number one of those that tell why a text is refused, 5 to 7?
abbrev is_of_text : Refusal → Bool
is_of_text r = ltb 4 (number_of r) && ltb (number_of r) 8

-- an image's refusal is none of them
image-apart : (f : Fault) → is_of_text (fault.refusal_of f) ≡ false
image-apart Length = refl
image-apart (Block b) = refl
image-apart (Layout b) = refl
image-apart (Component b r) = refl
image-apart (Label b r) = refl
image-apart (User b r) = refl
image-apart (Ring g) = refl
image-apart (Below b r) = refl

text-apart : (reason : Reason) → is_of_text (refusal_of reason) ≡ true
text-apart Shape = refl
text-apart (Unknown offset) = refl
text-apart (Repeated offset) = refl

err-tells : {A : Type 0} (q r : Refusal) → ◌≡◌ {A = Result A Refusal} (Err q) (Err r) → q ≡ r
err-tells q r e = cc

-- a check never tells a text's refusal
pub check-apart : (im : List ℕ) (reason : Reason) → check_of im ≡ Err (refusal_of reason) → ⊥
unfolding check_of
check-apart im reason = at (fault_of im)
  where
    at : (i : Inspection) → shown_as i ≡ Err (refusal_of reason) → ⊥
    at (Ok sound) e = not-ok (refusal_of reason) (sym e)
    at (Err f) e = true≢false (sym (text-apart reason) ∙ ap is_of_text (sym (err-tells _ _ e)) ∙ image-apart f)

-- two reasons have one refusal only if they are the same
pub reason-told : (a b : Reason) → refusal_of a ≡ refusal_of b → a ≡ b
reason-told Shape Shape e = refl
reason-told (Unknown n) (Unknown m) e = cc
reason-told (Repeated n) (Repeated m) e = cc
reason-told Shape (Unknown m) e = let n : ◌≡◌ {A = ℕ} 5 6 = ap number_of e in absurd (omega arith)
reason-told Shape (Repeated m) e = let n : ◌≡◌ {A = ℕ} 5 7 = ap number_of e in absurd (omega arith)
reason-told (Unknown n) Shape e = let n : ◌≡◌ {A = ℕ} 6 5 = ap number_of e in absurd (omega arith)
reason-told (Unknown n) (Repeated m) e = let n : ◌≡◌ {A = ℕ} 6 7 = ap number_of e in absurd (omega arith)
reason-told (Repeated n) Shape e = let n : ◌≡◌ {A = ℕ} 7 5 = ap number_of e in absurd (omega arith)
reason-told (Repeated n) (Unknown m) e = let n : ◌≡◌ {A = ℕ} 7 6 = ap number_of e in absurd (omega arith)

-- what a text gives tells how it is read
of_text-tells : (x y : Reading Marks) → of_text x ≡ of_text y → x ≡ y
of_text-tells (read m) (read n) e = cc
of_text-tells (read m) (refused b) e = absurd (not-ok (refusal_of b) (sym e))
of_text-tells (refused a) (read n) e = absurd (not-ok (refusal_of a) e)
of_text-tells (refused a) (refused b) e = ap refused (reason-told a b (err-tells _ _ e))

-- what is told of the text: the image is accepted, and the text is read so
pub parsed-read : (im text : List ℕ) (x : Reading Marks) → parse_of im text ≡ of_text x → IsAccepted im × (read_text im text ≡ x)
unfolding parse_of
parsed-read im text x = at (check_of im) refl
  where
    at : (c : Checked) → check_of im ≡ c → on_checked c Err (of_text (read_text im text)) ≡ of_text x → (c ≡ Ok tt) × (read_text im text ≡ x)
    at (Ok tt) is e = (refl, of_text-tells _ _ e)
    at (Err r) is e = absurd (other x is e)
      where
        other : (x : Reading Marks) → check_of im ≡ Err r → ◌≡◌ {A = Parsing} (Err r) (of_text x) → ⊥
        other (read m) is e = not-ok r e
        other (refused reason) is e = check-apart im reason (is ∙ ap Err (err-tells r (refusal_of reason) e))

-- a refusal is the image's or, of an accepted image, the text's
pub parse-refused : (im text : List ℕ) (r : Refusal) → parse_of im text ≡ Err r
    → (check_of im ≡ Err r) ⊎ (IsAccepted im × (of_text (read_text im text) ≡ Err r))
unfolding parse_of
parse-refused im text r = at (check_of im)
  where
    at : (c : Checked) → on_checked c Err (of_text (read_text im text)) ≡ Err r → (c ≡ Err r) ⊎ ((c ≡ Ok tt) × (of_text (read_text im text) ≡ Err r))
    at (Ok tt) e = inr (refl, e)
    at (Err q) e = inl cc
