-- The records that are lent, by the numbers that code counts: how many there are of each kind, and the limits. Assumes nothing.
use Prim.Native.Nat.{ℕ, ◌/◌}
use mathlib.Core.Path.{◌≡◌, sym, ap, ◌∙◌}
use mathlib.Core.List.{List}
use lib.ListN.{length}
use Rattle.header.specs.declared.counts.Counts.{Counts}
use Rattle.header.specs.declared.layout.Kind.{Kind}
use Rattle.header.specs.declared.layout.Kind.TheVariants.{Label, User}
use Rattle.header.specs.Layout.{record_size}
use Rattle.records.proofs.Parts.{run-count}
use Rattle.writing.specs.Laid.{Limited}
use Rattle.writing.specs.Lent.{lent_records}

module _ (n : Counts) (bytes : Kind → List ℕ) where
  abbrev records : Kind → List (List ℕ)
  records = lent_records n.edition bytes

  pub lent-counted : (kind : Kind) → length (records kind) ≡ length (bytes kind) / record_size n.edition kind
  lent-counted kind = run-count (record_size n.edition kind) (bytes kind)

  -- by the size that code has
  pub lent-told : (kind : Kind) {size : ℕ} → size ≡ record_size n.edition kind → length (bytes kind) / size ≡ length (records kind)
  lent-told kind e = ap (λ (s : ℕ). length (bytes kind) / s) e ∙ sym (lent-counted kind)

  pub lent-limited : Limited n (length (bytes User) / record_size n.edition User) (length (bytes Label) / record_size n.edition Label)
      → Limited n (length (records User)) (length (records Label))
  lent-limited l = rw (lent-counted User, lent-counted Label) l
