-- What the answer of a check tells of the fault: its number, and a record's kind, block and place. Assumes nothing.
use Rattle.std.proofs.Common.{Ok, Err}
use Rattle.refusals.specs.Answers.{Checked}
use Prim.Native.Nat.{ℕ, ◌≤◌}
use mathlib.Core.Path.{◌≡◌, refl, sym, ◌∙◌, ap}
use mathlib.Core.List.{List, [], ◌∷◌}
use native.Mathlib.Omega.{arith}
use lib.ListN.{get_or}
use Rattle.header.specs.declared.layout.Kind.{Kind}
use Rattle.header.specs.declared.layout.Kind.TheVariants as kind
use Rattle.refusals.specs.declared.Refusal.{Refusal}
use Rattle.refusals.specs.Refusals.{number_of, values_of}
use Rattle.image.specs.Faults.{Inspection, shown_as, record_fault}
use Rattle.image.specs.Exactly.{record_refusal, record_number}

-- ---- the number and the values; 0 and none for an accepted image
abbrev pub number_told : Checked → ℕ
number_told (Ok tt) = 0
number_told (Err r) = number_of r

abbrev pub values_told : Checked → List ℕ
values_told (Ok tt) = []
values_told (Err r) = values_of r

-- two findings that are one are told with one number
pub one_number : {f : Inspection} (g : Inspection) {r : Refusal} → f ≡ g → shown_as f ≡ Err r → number_told (shown_as g) ≡ number_of r
one_number g q e = ap number_told (ap shown_as (sym q) ∙ e)

-- a record's refusal: its number is that of its kind, and its values are block and record
pub record-line : (k : Kind) (b r : ℕ)
    → (shown_as (Err (record_fault k b r)) ≡ Err (record_refusal k b r))
    × ((number_of (record_refusal k b r) ≡ record_number k) × (values_of (record_refusal k b r) ≡ b ∷ r ∷ []))
record-line kind.Component b r = (refl, (refl, refl))
record-line kind.Label b r = (refl, (refl, refl))
record-line kind.User b r = (refl, (refl, refl))

-- a record's fault is told with the number of its kind
pub one-record : {f : Inspection} (k : Kind) (b r : ℕ) {refusal : Refusal} → f ≡ Err (record_fault k b r) → shown_as f ≡ Err refusal
    → record_number k ≡ number_of refusal
one-record k b r q e =
    sym (record-line k b r).1.0 ∙ ap number_told (sym (record-line k b r).0) ∙ one_number (Err (record_fault k b r)) q e

pub number-among : (k : Kind) → (32 ≤ record_number k) × (record_number k ≤ 34)
number-among kind.Component = (omega arith, omega arith)
number-among kind.Label = (omega arith, omega arith)
number-among kind.User = (omega arith, omega arith)

kind-told : (j k : Kind) → record_number j ≡ record_number k → j ≡ k
kind-told kind.Component kind.Component e = refl
kind-told kind.Component kind.Label e = absurd (omega arith)
kind-told kind.Component kind.User e = absurd (omega arith)
kind-told kind.Label kind.Component e = absurd (omega arith)
kind-told kind.Label kind.Label e = refl
kind-told kind.Label kind.User e = absurd (omega arith)
kind-told kind.User kind.Component e = absurd (omega arith)
kind-told kind.User kind.Label e = absurd (omega arith)
kind-told kind.User kind.User e = refl

-- so it tells kind, block and record
module _ (j k : Kind) (c s b r : ℕ) (e : ◌≡◌ {A = Checked} (Err (record_refusal j c s)) (Err (record_refusal k b r))) where
  pub same_kind : j ≡ k
  same_kind = kind-told j k (sym (record-line j c s).1.0 ∙ ap number_told e ∙ (record-line k b r).1.0)

  same-values : c ∷ s ∷ [] ≡ b ∷ r ∷ []
  same-values = sym (record-line j c s).1.1 ∙ ap values_told e ∙ (record-line k b r).1.1

  pub same_block : c ≡ b
  same_block = ap (λ (l : List ℕ). get_or l 0 0) same-values

  pub same-slot : s ≡ r
  same-slot = ap (λ (l : List ℕ). get_or l 1 0) same-values
