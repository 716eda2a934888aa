-- A name's later bytes leave the state of a reading as its first one does. Assumes nothing.
use Prim.Native.Nat.{ℕ, zero, suc, ◌+◌, ◌-◌, ◌≤◌, ◌<◌}
use mathlib.Core.Path.{◌≡◌, refl}
use mathlib.Core.Bool.{true}
use mathlib.Core.List.{List}
use native.Mathlib.Nat.{add-zero}
use native.Mathlib.Omega.{arith}
use lib.ListN.{length, drop}
use Rattle.fields.specs.Scan.{first_bad}
use Rattle.fields.proofs.Scan.{bad-from, bad-upto, good-before}
use Rattle.labels.specs.declared.shape.State.{State}
use Rattle.labels.specs.declared.shape.State.TheVariants.{Start, Level, Lists, First, FirstNext, Second, InSecond, Wrong}
use Rattle.labels.specs.States.{text_byte_at, after_name_byte, after_all}
use Rattle.labels.proofs.Reading.{after-step}

name-twice : (s : State) → after_name_byte (after_name_byte s) ≡ after_name_byte s
name-twice Start = refl
name-twice Level = refl
name-twice Lists = refl
name-twice First = refl
name-twice FirstNext = refl
name-twice Second = refl
name-twice InSecond = refl
name-twice Wrong = refl

module _ (text : List ℕ) where
  -- one byte of a name
  pub name-step : (state w : State) (i : ℕ) → i < length text → text_byte_at text i ≡ true → after_all state (drop i text) ≡ w
      → after_all (after_name_byte state) (drop (i + 1) text) ≡ w
  name-step state w i h e inv = rw e at (after-step state text i w h inv)

  module _ (state w : State) where
    -- after one, n more
    names-step : (n i : ℕ) → i + n ≤ length text → ((k : ℕ) → i ≤ k → k < i + n → text_byte_at text k ≡ true)
        → after_all (after_name_byte state) (drop i text) ≡ w → after_all (after_name_byte state) (drop (i + n) text) ≡ w
    names-step zero i h all inv = rw add-zero inv
    names-step (suc n) i h all inv =
        let q : i + suc n ≡ i + 1 + n = omega arith in
        let one = rw name-twice at (name-step (after_name_byte state) w i (omega arith) (all i (omega arith) (omega arith)) inv) in
        rw q (names-step n (i + 1) (omega arith) (λ k l m. all k (omega arith) (omega arith)) one)

    -- up to the first byte of no name
    pub run_step : (i r : ℕ) → i ≤ length text → r ≡ first_bad (text_byte_at text) (length text - i) i
        → after_all (after_name_byte state) (drop i text) ≡ w → after_all (after_name_byte state) (drop r text) ≡ w
    run_step i r h e inv =
        let rule = text_byte_at text in
        let low = bad-from rule (length text - i) i in
        let high = bad-upto rule (length text - i) i in
        let q : i + (r - i) ≡ r = omega arith in
        rw q at (names-step (r - i) i (omega arith) (λ k l m. good-before rule (length text - i) i k l (omega arith)) inv)
