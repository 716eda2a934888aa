use Rattle.std.proofs.Common.{◌≡◌, ℕ, ◌+◌, ◌-◌, ◌≤◌, true, sym, refl, ◌∙◌, arith}
use Rattle.fields.specs.Scan.{first_bad}
use Rattle.fields.proofs.Scan.{all-good}
use Rattle.header.specs.declared.layout.Kind.{Kind}
use Rattle.header.specs.declared.layout.Kind.TheVariants.{Component, Label, User}
use Rattle.header.proofs.Inside.{records-count}
use Rattle.records.proofs.kinds.first_known.Goals as goal

-- a rule that always holds
all_new : (from to : ℕ) → from ≤ to → to ≡ first_bad (λ i. true) (to - from) from
all_new from to h =
    let e : from + (to - from) ≡ to = omega arith in
    sym (all-good (λ i. true) (to - from) from (λ i low high. refl) ∙ e)

no_label : (kind : Kind) → kind ≡ Label → kind ≡ Component → ⊥
no_label kind p q = let z : ◌≡◌ {A = ℕ} 0 1 = cc in omega arith

no-user : (kind : Kind) → kind ≡ User → kind ≡ Component → ⊥
no-user kind p q = let z : ◌≡◌ {A = ℕ} 0 1 = cc in omega arith

pub first_stale-requires : goal.first_stale-requires
first_stale-requires c =
    let is = c.in-Component.is in
    record {
      whole = (c.requires.fitted.0, (c.requires.fitted.1.1.0, rw records-count (rw is at c.requires.fitted.1.1.1)));
      holds_from = c.requires.holds_from is;
      names_kept = (c.requires.names_kept.0 is, rw c.requires.fitted.1.0 (c.requires.names_kept.1.marks is));
    }

pub returns-in-Label : goal.returns-in-Label
returns-in-Label c =
    let is = c.in-Label.is in
    record {
      value = rw is (all_new c.args.from c.args.to c.requires.fitted.1.1.0);
      passed = λ e. record { names = c.requires.names_kept.0; marks = λ k. absurd (no_label _ is k) };
    }

pub returns-in-User : goal.returns-in-User
returns-in-User c =
    let is = c.in-User.is in
    record {
      value = rw is (all_new c.args.from c.args.to c.requires.fitted.1.1.0);
      passed = λ e. record { names = c.requires.names_kept.0; marks = λ k. absurd (no-user _ is k) };
    }
