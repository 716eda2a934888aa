-- Two labels that may be compared: the image is accepted, and the policy has both. Assumes nothing.
use Rattle.std.proofs.Common.{Ok, Err}
use Prim.Native.Nat.{ℕ}
use mathlib.Core.Path.{◌≡◌, refl}
use mathlib.Core.Bool.{Bool, true, false, ◌&&◌}
use mathlib.Core.List.{List}
use Rattle.fields.proofs.Both.{parts}
use Rattle.refusals.specs.declared.Refusal.TheVariants.{NoComponent}
use Rattle.refusals.specs.Answers.{on_checked, or_refuse, Checked}
use Rattle.image.specs.Check.{check_of, IsAccepted}
use Rattle.image.proofs.Accepted.{refused-not}
use Rattle.labels.specs.Label.{Marks, label_exists}
use Rattle.dominance.specs.TwoLabels.{compared_answer}

pub record Comparable (im : List ℕ) (a b : Marks) : Type 0 where
  pub accepted : IsAccepted im
  pub first : label_exists im a ≡ true
  pub second : label_exists im b ≡ true

pub compared-means : (im : List ℕ) (a b : Marks) → compared_answer im a b ≡ (Ok tt) → Comparable im a b
unfolding compared_answer
compared-means im a b = at (check_of im) refl (label_exists im a && label_exists im b) refl
  where
    at : (c : Checked) → check_of im ≡ c → (t : Bool) → (label_exists im a && label_exists im b) ≡ t
        → on_checked c Err (or_refuse t NoComponent (Ok tt)) ≡ (Ok tt) → Comparable im a b
    at (Ok tt) e true d f = let q = parts _ _ d in record { accepted = e; first = q.0; second = q.1 }
    at (Ok tt) e false d f = absurd (refused-not _ f)
    at (Err r) e t d f = absurd (refused-not r f)

pub means-compared : (im : List ℕ) (a b : Marks) → Comparable im a b → compared_answer im a b ≡ Ok tt
unfolding compared_answer
means-compared im a b k = rw (k.accepted, k.first, k.second)
