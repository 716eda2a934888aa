-- Writing a comma and a name into a buffer. Assumes nothing.
use Prim.Native.Nat.{ℕ, ◌+◌, ◌≤◌}
use mathlib.Core.Path.{◌≡◌, sym, ap, ◌∙◌}
use mathlib.Core.Bool.{true}
use mathlib.Core.List.{List, ◌∷◌}
use native.Mathlib.Omega.{arith}
use lib.ListN.{length, set}
use Rattle.sets.specs.Sets.{has}
use Rattle.printing.specs.Print.{name_at, entry_at}
use Rattle.buffers.specs.Pasting.{pasted, Written}
use Rattle.printing.proofs.Listed.{entry_has, entry-length-has}
use Rattle.buffers.proofs.Pasted.{byte-after}

module _ (im : List ℕ) (class s k : ℕ) (name : List ℕ) (e : ℕ) where
  pub entry-room : {n : ℕ} → has s k ≡ true → name ≡ name_at im class k → e + length (entry_at im class s k) ≤ n
      → e + 1 + length name ≤ n
  entry-room h n room = let l = entry-length-has im class s k name h n in omega arith

  pub written_entry : (b after : List ℕ) (r : ℕ) → has s k ≡ true → name ≡ name_at im class k
      → e + length (entry_at im class s k) ≤ length b → Written (set b e 44) (e + 1) name after r
      → Written b e (entry_at im class s k) after r
  written_entry b after r h n room w =
      let more = entry-room h n room in
      let l = entry-length-has im class s k name h n in
      record {
        bytes =
            w.bytes ∙ byte-after b e 44 name (omega arith)
            ∙ ap (pasted b e) (ap (λ (t : List ℕ). 44 ∷ t) n ∙ sym (entry_has im class s k h));
        stop = omega (arith, w.stop);
      }
