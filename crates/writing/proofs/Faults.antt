-- The fault that is told of what is lent: where a search ends among its places, and where it does not. Assumes nothing.
use Rattle.std.proofs.Common.{Ok, Err}
use Prim.Native.Nat.{ℕ, ◌≤◌, ◌<◌}
use mathlib.Core.Path.{◌≡◌, refl, sym, ap, ◌∙◌}
use mathlib.Core.Bool.{Bool, true, false, cond}
use native.Mathlib.Omega.{arith}
use lib.Dec.{ltb}
use borrow.Author.Tests.{lt-ltb, le-ltb}
use Rattle.fields.specs.Scan.{first_bad}
use Rattle.writing.specs.declared.answers.LentFault.{LentFault}
use Rattle.writing.specs.Lent.{LentCheck, fault_at}

module _ (fault : ℕ → LentFault) (after : LentCheck) where
  -- r is the place that is found, `bound` the number of places as code has it
  pub told_here : {place count : ℕ} (r bound : ℕ) → count ≡ bound → r ≡ place → r < bound → fault_at place count fault after ≡ Err (fault r)
  told_here {place} {count} r bound n e h = rw (n, ← e, lt-ltb r bound h)

  pub told-after : {place count : ℕ} (r bound : ℕ) → count ≡ bound → r ≡ place → bound ≤ r → fault_at place count fault after ≡ after
  told-after {place} {count} r bound n e h = rw (n, ← e, le-ltb r bound h)

-- a search by itself, and what is told after it
module _ (place count : ℕ) (fault : ℕ → LentFault) (after : LentCheck) where
  pub none_first : fault_at place count fault (Ok tt) ≡ Ok tt → fault_at place count fault after ≡ after
  none_first = at (ltb place count)
    where
      at : (t : Bool) → cond {A = LentCheck} t (Err (fault place)) (Ok tt) ≡ Ok tt → cond {A = LentCheck} t (Err (fault place)) after ≡ after
      at true e = let z : ◌≡◌ {A = ℕ} 0 1 = cc in absurd (omega arith)
      at false e = refl

  pub fault_first : {f : LentFault} → fault_at place count fault (Ok tt) ≡ Err f → fault_at place count fault after ≡ Err f
  fault_first {f} = at (ltb place count)
    where
      at : (t : Bool) → cond {A = LentCheck} t (Err (fault place)) (Ok tt) ≡ Err f → cond {A = LentCheck} t (Err (fault place)) after ≡ Err f
      at true e = e
      at false e = let z : ◌≡◌ {A = ℕ} 0 1 = cc in absurd (omega arith)

-- a search among as many places as there are, counted in another way
pub counted-bad : (rule : ℕ → Bool) {r n m : ℕ} → m ≡ n → r ≡ first_bad rule n 0 → r ≡ first_bad rule m 0
counted-bad rule e f = f ∙ ap (λ (k : ℕ). first_bad rule k 0) (sym e)
