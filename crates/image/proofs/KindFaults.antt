-- The first fault of the blocks of a kind, as a walk over them finds it, and the first of all blocks, kind by kind. Assumes nothing.
use Rattle.std.specs.Prelude.{Ok, Err}
use Prim.Native.Nat.{ℕ, ◌+◌, ◌-◌, ◌≤◌, ◌<◌}
use mathlib.Core.Path.{◌≡◌, refl, sym, ap, ◌∙◌}
use mathlib.Core.Bool.{false}
use mathlib.Core.List.{List}
use mathlib.Core.Logic.{⊎_elim}
use native.Mathlib.Omega.{arith}
use borrow.Author.Tests.{lt-ltb, le-ltb}
use Rattle.fields.specs.Scan.{first_bad}
use Rattle.fields.proofs.Both.{below_or}
use Rattle.fields.proofs.Scan.{all-good, bad-is, part-bad, part-good}
use Rattle.header.specs.declared.layout.Kind.{Kind}
use Rattle.header.specs.declared.layout.Kind.TheVariants as kind
use Rattle.header.specs.Layout.{blocks_of, first_block, blocks_needed, contents_of}
use Rattle.header.proofs.Inside.{kind-of}
use Rattle.records.specs.Rules.{first_bad_record, content_rule}
use Rattle.records.specs.Kinds.{OfKind, KeptUpto, LayoutBad, RecordBad}
use Rattle.image.specs.declared.faults.Fault.TheVariants.{Layout}
use Rattle.image.specs.Faults.{record_fault}
use Rattle.image.proofs.Lowest.{or_else}
use Rattle.image.specs.Walk.{content_fault, range_fault, kind_fault, contents_fault}
use Rattle.image.proofs.Place.{slot-few}

-- ---- what the walk over the blocks of a kind finds
module _ (im : List ℕ) (k : Kind) where
  kind-length : first_block im k + blocks_of im k - first_block im k ≡ blocks_of im k
  kind-length = omega arith

  pub none_found : KeptUpto im k (first_block im k + blocks_of im k) → kind_fault im k ≡ Ok tt
  unfolding range_fault
  none_found kept =
      let all = all-good (content_rule im) (blocks_of im k) (first_block im k) kept in
      rw (kind-length, all, le-ltb (first_block im k + blocks_of im k) (first_block im k + blocks_of im k) (omega arith))

  fault-at : (b : ℕ) → OfKind im k b → KeptUpto im k b → content_rule im b ≡ false → kind_fault im k ≡ Err (content_fault im b)
  unfolding range_fault
  fault-at b here kept bad =
      let is = bad-is (content_rule im) (blocks_of im k) (first_block im k) b here.low here.high kept bad in
      rw (kind-length, is, lt-ltb b (first_block im k + blocks_of im k) here.high)

  pub layout-found : (b : ℕ) → LayoutBad im k b → kind_fault im k ≡ Err (Layout b)
  unfolding content_fault content_rule
  layout-found b f = fault-at b f.block f.before (rw f.bad) ∙ rw f.bad

  kind-held : (b : ℕ) → OfKind im k b → (contents_of im b).kind ≡ k
  unfolding contents_of
  kind-held b here = kind-of im k b here.low here.high

  pub record-found : (b r : ℕ) → RecordBad im k b r → kind_fault im k ≡ Err (record_fault k b r)
  unfolding content_fault
  record-found b r f =
      let place : first_bad_record im b - (contents_of im b).from ≡ r = omega (arith, f.place) in
      fault-at b f.block f.before f.bad ∙ rw (f.laid, kind-held b f.block, place)

  -- its place in the block
  pub record-few : (b r : ℕ) → RecordBad im k b r → r < 256
  record-few b r f = omega (arith, slot-few im b, f.place)

-- ---- a range of blocks in two parts
module _ (im : List ℕ) (i t e : ℕ) (low : i ≤ t) (high : t ≤ e) where
  abbrev first : ℕ
  first = first_bad (content_rule im) (t - i) i

  here : first < t → (range_fault im i t ≡ Err (content_fault im first)) × (range_fault im i e ≡ Err (content_fault im first))
  unfolding range_fault
  here l =
      let whole = part-bad (content_rule im) e i t first _ low high refl refl l in
      (rw (lt-ltb first t l), rw (sym whole, lt-ltb first e (omega arith)))

  past : t ≤ first → (range_fault im i t ≡ Ok tt) × (range_fault im i e ≡ range_fault im t e)
  unfolding range_fault
  past l =
      let whole = part-good (content_rule im) e i t first _ low high refl refl l in
      (rw (le-ltb first t l), rw (sym whole))

  range-parts : range_fault im i e ≡ or_else (range_fault im i t) (range_fault im t e)
  range-parts = ⊎_elim (λ l. rw ((here l).0, (here l).1)) (λ l. rw ((past l).0, (past l).1)) (below_or first t)

-- components, then labels, then users
pub kinds-in-turn : (im : List ℕ)
    → contents_fault im ≡ or_else (kind_fault im kind.Component) (or_else (kind_fault im kind.Label) (kind_fault im kind.User))
unfolding first_block blocks_needed
kinds-in-turn im =
    range-parts im 1 (1 + blocks_of im kind.Component) (blocks_needed im) (omega arith) (omega arith)
    ∙ ap (or_else (kind_fault im kind.Component))
    (range-parts im (first_block im kind.Label) (first_block im kind.User) (blocks_needed im) (omega arith) (omega arith))
