-- What print leaves in a buffer, parse reads as the label again. Assumes nothing.
use Rattle.std.proofs.Common.{Ok, Err}
use Prim.Native.Nat.{ℕ}
use mathlib.Core.Path.{◌≡◌, refl, sym, ap, ◌∙◌}
use mathlib.Core.Bool.{Bool, true, false}
use mathlib.Core.List.{List, ◌++◌}
use native.Mathlib.Omega.{arith}
use lib.Dec.{leb}
use lib.ListN.{length, take, drop}
use lib.Seq.{take_at}
use Rattle.refusals.specs.declared.Refusal.{Refusal}
use Rattle.refusals.specs.declared.Refusal.TheVariants.{NoComponent, Room}
use Rattle.refusals.specs.Answers.{on_checked, or_refuse, Amount, Checked}
use Rattle.image.specs.Check.{check_of}
use Rattle.labels.specs.Label.{Marks, label_exists}
use Rattle.labels.specs.Parse.{read, of_text, parse_of}
use Rattle.printing.specs.Print.{text_of, unprinted, accepted_answer, print_of}
use Rattle.roundtrip.proofs.RoundTrip.{parse-of-print}

not_done : (r : Refusal) (n : ℕ) → ◌≡◌ {A = Amount} (Err r) (Ok n) → ⊥
not_done r n e = let z : ◌≡◌ {A = ℕ} 0 1 = cc in omega arith

same_length : (n k : ℕ) → ◌≡◌ {A = Amount} (Ok n) (Ok k) → n ≡ k
same_length n k e = cc

-- a print that is done reports n bytes: the first n bytes of the buffer are text that is read as the label
pub printed-parses : (im : List ℕ) (m : Marks) (b : List ℕ) (n : ℕ) (after : List ℕ) → print_of im m b ≡ (Ok n, after)
    → parse_of im (take n after) ≡ of_text (read m)
unfolding print_of accepted_answer
printed-parses im m b n after = at (check_of im) refl (label_exists im m) refl (leb (length text) (length b))
  where
    text : List ℕ
    text = text_of im m

    at : (c : Checked) → check_of im ≡ c → (t : Bool) → label_exists im m ≡ t → (u : Bool)
        → on_checked c (unprinted b)
        (on_checked (or_refuse t NoComponent (or_refuse u Room (Ok tt))) (unprinted b) (Ok (length text), text ++ drop (length text) b))
        ≡ (Ok n, after)
        → parse_of im (take n after) ≡ of_text (read m)
    at (Err r) acc t h u e = absurd (not_done r n (ap (λ (x : Amount × List ℕ). x.0) e))
    at (Ok tt) acc false h u e = absurd (not_done NoComponent n (ap (λ (x : Amount × List ℕ). x.0) e))
    at (Ok tt) acc true h false e = absurd (not_done Room n (ap (λ (x : Amount × List ℕ). x.0) e))
    at (Ok tt) acc true h true e =
        let l = same_length (length text) n (ap (λ (x : Amount × List ℕ). x.0) e) in
        let s : after ≡ text ++ drop (length text) b = sym (ap (λ (x : Amount × List ℕ). x.1) e) in
        ap (parse_of im) (ap (take n) s ∙ take_at text (drop (length text) b) n l) ∙ parse-of-print im acc m h
