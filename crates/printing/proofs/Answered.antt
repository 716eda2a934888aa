-- How a print ends. Assumes nothing.
use Rattle.std.proofs.Common.{Ok, Err}
use Prim.Native.Nat.{ℕ, ◌≤◌, ◌<◌}
use mathlib.Core.Path.{◌≡◌, ap₂, ◌∙◌}
use mathlib.Core.Bool.{true, false}
use mathlib.Core.List.{List, ◌++◌}
use native.Mathlib.Nat.{zero-add, le_trans}
use borrow.Author.Tests.{le-leb, lt-leb}
use lib.ListN.{length, drop}
use Rattle.refusals.specs.declared.Refusal.TheVariants.{NoComponent, Room}
use Rattle.header.specs.Limits.{limits_of}
use Rattle.buffers.proofs.Pasted.{front}
use Rattle.image.specs.Check.{IsAccepted}
use Rattle.labels.specs.Label.{Marks, label_exists}
use Rattle.printing.specs.Print.{text_of, accepted_answer, print_of}
use Rattle.buffers.specs.Pasting.{Written}
use Rattle.printing.proofs.Whole.{text-short}

module _ (im : List ℕ) (m : Marks) (b : List ℕ) where
  pub answer-lacks : label_exists im m ≡ false → (Err NoComponent, b) ≡ accepted_answer im m b
  unfolding accepted_answer
  answer-lacks e = rw e

  pub answer-room : label_exists im m ≡ true → length b < length (text_of im m) → (Err Room, b) ≡ accepted_answer im m b
  unfolding accepted_answer
  answer-room e h = rw (e, lt-leb (length (text_of im m)) (length b) h)

  pub answer-done : {after : List ℕ} {r : ℕ} → label_exists im m ≡ true → length (text_of im m) ≤ length b
      → Written b 0 (text_of im m) after r → (Ok r, after) ≡ accepted_answer im m b
  unfolding accepted_answer
  answer-done e h w =
      rw (e, le-leb (length (text_of im m)) (length b) h)
      (ap₂ (λ (n : ℕ) (t : List ℕ). (Ok n, t)) (w.stop ∙ zero-add (length (text_of im m))) (w.bytes ∙ front b (text_of im m)))

-- a buffer as long as the longest text has room for every label that the policy has
pub print-done : (im : List ℕ) (m : Marks) (b : List ℕ) → IsAccepted im → label_exists im m ≡ true → (limits_of im).text ≤ length b
    → print_of im m b ≡ (Ok (length (text_of im m)), text_of im m ++ drop (length (text_of im m)) b)
unfolding print_of accepted_answer
print-done im m b acc e room =
    let short = text-short im acc m e in
    rw (acc, e, le-leb (length (text_of im m)) (length b) (le_trans short room))
