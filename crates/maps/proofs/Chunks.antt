-- A walk over the records of a run by its chunks. Assumes nothing.
use Prim.Native.Nat.{ℕ, suc, ◌+◌, ◌*◌, ◌/◌, ◌%◌, ◌-◌, ◌<◌, ◌≤◌}
use mathlib.Core.Path.{◌≡◌, sym, ap, ◌∙◌}
use mathlib.Core.List.{List, ◌++◌}
use native.Mathlib.Nat.{mul-suc, mul-zero, div-add-mod, lt_of_mul-lt-mul_left, le_of_mul-le-mul_left}
use native.Mathlib.Numerals.{add-one}
use native.Mathlib.Omega.{arith}
use lib.ListN.{length, take, drop, length-append, length-drop}
use lib.Seq.{take_at, drop_at, drop-drop}
use Rattle.records.specs.Rules.{run_record}

-- before place n the records are gone through, and those from there on are left
pub record Ahead (size : ℕ) (run : List ℕ) (n step : ℕ) (rest : List ℕ) : Type 0 where
  pub same : step ≡ size
  pub inside : size * n ≤ length run
  pub left : rest ≡ drop (size * n) run

module _ (size : ℕ) (run : List ℕ) (positive : 0 < size) where
  pub ahead-start : (step : ℕ) (rest : List ℕ) → step ≡ size → rest ≡ run → Ahead size run 0 step rest
  ahead-start step rest same all =
      let none : size * 0 ≡ 0 = mul-zero size in
      record { same = same; inside = omega arith; left = all ∙ ap (λ (k : ℕ). drop k run) (sym none) }

  module _ (n step : ℕ) (rest : List ℕ) (a : Ahead size run n step rest) where
    left-long : length rest ≡ length run - size * n
    left-long = ap length a.left ∙ length-drop (size * n) run

    module _ (row later : List ℕ) (cut : rest ≡ row ++ later) (long : length row ≡ step) where
      row-long : length row ≡ size
      row-long = long ∙ a.same

      -- the record at place n
      pub row-is : row ≡ run_record size run n
      row-is = sym (take_at row later size row-long) ∙ ap (take size) (sym cut ∙ a.left)

      room : size * n + size ≤ length run
      room =
          let l : length rest ≡ length row + length later = ap length cut ∙ length-append row later in
          omega (arith, left-long, row-long, a.inside)

      pub row-among : length run % size ≡ 0 → n < length run / size
      row-among whole =
          let d = div-add-mod (length run) size in
          let s : size * n < size * (length run / size) = omega (arith, room) in
          lt_of_mul-lt-mul_left size s

      pub ahead-next : (step' n' : ℕ) → step' ≡ step → n' ≡ n + 1 → Ahead size run n' step' later
      ahead-next step' n' same next =
          let more : size * n' ≡ size * n + size = ap (λ (k : ℕ). size * k) (next ∙ add-one n) ∙ mul-suc size n in
          let after : later ≡ drop (size * n') run =
          sym (drop_at row later size row-long) ∙ ap (drop size) (sym cut ∙ a.left) ∙ drop-drop size (size * n) run
          ∙ ap (λ (k : ℕ). drop k run) (sym more) in
          record { same = same ∙ a.same; inside = omega (arith, room); left = after }

    -- no whole record is left
    pub ahead-end : length run % size ≡ 0 → length rest < step → n ≡ length run / size
    ahead-end whole short =
        let d = div-add-mod (length run) size in
        let q = length run / size in
        let low : size * n ≤ size * q = omega (arith, a.inside) in
        let high : size * q < size * suc n = rw mul-suc (omega (arith, left-long, a.same)) in
        let p : n ≤ q = le_of_mul-le-mul_left low positive in
        let r : q < suc n = lt_of_mul-lt-mul_left size high in
        omega arith
