use Prim.Native.Nat.{ℕ}
use mathlib.Core.Path.{◌≡◌, refl, sym, ◌∙◌}
use mathlib.Core.Bool.{true}
use native.Mathlib.Nat.{sub-zero}
use native.Mathlib.Omega.{arith}
use Rattle.fields.specs.Scan.{first_bad}
use Rattle.fields.proofs.Scan.{all-good}
use Rattle.records.proofs.Marks.{marked-first, run_holds}
use Rattle.records.proofs.Parts.{run-count}
use Rattle.writing.proofs.lent.first_known.Goals as goal

-- a rule that always holds
all_new : (to : ℕ) → to ≡ first_bad (λ i. true) to 0
all_new to = sym (all-good (λ i. true) to 0 (λ i low high. refl) ∙ omega arith)

pub first_stale-requires : goal.first_stale-requires
first_stale-requires c =
    let is = c.in-Component.is in
    let whole = rw is at c.requires.kind_len.0 in
    let within = rw is at c.requires.kind_len.1 in
    record {
      whole = (whole, (omega arith, rw (run-count 40 _) within));
      holds_from = run_holds _ _ within;
      names_kept = (c.requires.names_kept is, marked-first _ _ _);
    }

pub returns-in-Component : goal.returns-in-Component
returns-in-Component c = rw c.in-Component.is (rw sub-zero at c.first_stale.ensures.value)

pub returns-in-Label : goal.returns-in-Label
returns-in-Label c = rw c.in-Label.is (all_new _)

pub returns-in-User : goal.returns-in-User
returns-in-User c = rw c.in-User.is (all_new _)
