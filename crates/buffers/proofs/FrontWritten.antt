-- The answer of a call that writes to the front of a lent buffer: the bytes and how many, or 13. Assumes nothing.
use Rattle.std.proofs.Common.{Ok, Err}
use Prim.Native.Nat.{ℕ, ◌≤◌, ◌<◌}
use mathlib.Core.Path.{◌≡◌, refl, ap, ap₂, ◌∙◌}
use mathlib.Core.Bool.{Bool, true, false, cond}
use mathlib.Core.List.{List}
use native.Mathlib.Nat.{zero-add}
use native.Mathlib.Omega.{arith}
use borrow.Author.Tests.{leb-true, le-leb, lt-leb}
use lib.Dec.{leb}
use lib.ListN.{length, take, drop}
use lib.Seq.{take-append_seam, drop-append_seam}
use Rattle.refusals.specs.declared.Refusal.{Refusal}
use Rattle.refusals.specs.declared.Refusal.TheVariants.{Room}
use Rattle.refusals.specs.Answers.{on_checked, Amount, Checked}
use Rattle.buffers.specs.Pasting.{at_front, Written}
use Rattle.buffers.specs.Filling.{unfilled, written_to}
use Rattle.buffers.proofs.Pasted.{front}

module _ (b bytes : List ℕ) where
  -- n is how many bytes there are
  pub answer-room : (n : ℕ) → n ≡ length bytes → length b < n → (Err Room, b) ≡ written_to b bytes
  answer-room n e h = rw (lt-leb (length bytes) (length b) (rw e at h))

  pub answer-done : {after : List ℕ} {r : ℕ} (n : ℕ) → n ≡ length bytes → n ≤ length b → Written b 0 bytes after r → (Ok r, after) ≡ written_to b bytes
  answer-done n e h w =
      rw (le-leb (length bytes) (length b) (rw e at h))
      (ap₂ (λ (n : ℕ) (t : List ℕ). (Ok n, t)) (w.stop ∙ zero-add (length bytes)) (w.bytes ∙ front b bytes))

-- ---- where such a call is done: the front of the buffer is the bytes, of the length that is told, and later bytes stay
pub record FrontDone (b bytes after : List ℕ) (n : ℕ) : Type 0 where
  pub long : n ≡ length bytes
  pub room : n ≤ length b
  pub front : take n after ≡ bytes
  pub later : drop n after ≡ drop n b

pub refused-done : {r : Refusal} {n : ℕ} → ◌≡◌ {A = Amount} (Err r) (Ok n) → ⊥
refused-done {r} {n} e = let z : ◌≡◌ {A = ℕ} 0 1 = cc in omega arith

module _ (b bytes after : List ℕ) (n : ℕ) where
  done-same : {m : ℕ} → ◌≡◌ {A = Amount} (Ok m) (Ok n) → m ≡ n
  done-same {m} e = cc

  laid : length bytes ≤ length b → length bytes ≡ n → at_front bytes b ≡ after → FrontDone b bytes after n
  laid room e f =
      rw (← e, ← f)
      (record {
        long = refl;
        room = room;
        front = take-append_seam bytes (drop (length bytes) b);
        later = drop-append_seam bytes (drop (length bytes) b);
      })

  pub front-done : written_to b bytes ≡ (Ok n, after) → FrontDone b bytes after n
  front-done = at (leb (length bytes) (length b)) refl
    where
      at : (t : Bool) → leb (length bytes) (length b) ≡ t
          → cond {A = Amount × List ℕ} t (Ok (length bytes), at_front bytes b) (unfilled b Room) ≡ (Ok n, after) → FrontDone b bytes after n
      at true t q = laid (leb-true _ _ t) (done-same (ap (λ (p : Amount × List ℕ). p.0) q)) (ap (λ (p : Amount × List ℕ). p.1) q)
      at false t q = absurd (refused-done (ap (λ (p : Amount × List ℕ). p.0) q))

  -- after a check
  pub checked-done : (c : Checked) → on_checked c (unfilled b) (written_to b bytes) ≡ (Ok n, after) → (c ≡ Ok tt) × FrontDone b bytes after n
  checked-done (Ok tt) q = (refl, front-done q)
  checked-done (Err r) q = absurd (refused-done (ap (λ (p : Amount × List ℕ). p.0) q))
