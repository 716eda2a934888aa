-- A word that is put together from runs of records, each within one block. Assumes nothing.
use Prim.Native.Nat.{ℕ, zero, suc, ◌+◌, ◌-◌, ◌*◌, ◌/◌, ◌%◌, ◌^◌, ◌≤◌, ◌<◌}
use mathlib.Core.Path.{◌≡◌, refl, sym, ap, ap₂, ◌∙◌}
use mathlib.Core.Bool.{Bool, true, false, cond}
use mathlib.Core.List.{List}
use native.Mathlib.Nat.{add-zero, add-suc, mul-suc, mul-le-mul_left, mul-div_right, mul-mod_right, mod-eq_of_lt}
use native.Mathlib.Omega.{arith}
use borrow.Author.Tests.{lt-ltb}
use lib.Bits.{or_shifted_r}
use lib.ListN.{length, take, drop}
use lib.Pow.{pow-add, pow_mono}
use Rattle.fields.specs.Bytes.{part}
use Rattle.fields.proofs.Laws.{part-taken, part_length, part-part}
use Rattle.sets.specs.Sets.{union, collect}
use Rattle.sets.proofs.Has.{collect-below}
use Rattle.header.specs.declared.edition.Edition.{Edition}
use Rattle.header.specs.declared.layout.Kind.TheVariants.{Label}
use Rattle.header.specs.declared.layout.Shape.{Shape}
use Rattle.header.specs.Layout.{edition_of, record_size, labels, Fitted, Shaped, record_slot, record_offset, record_at, shape_of}
use Rattle.header.proofs.Editions.{size-least}
use Rattle.header.proofs.Inside.{same_block, record-inside}
use Rattle.labels.specs.Label.{record_label, label_at}
use Rattle.access.specs.Rights.{Rights}
use Rattle.access.specs.Verdicts.{reads_label}
use Rattle.maps.specs.Map.{reads_record}

-- ---- the places of a run, put after those that are done
collect-same : (f g : ℕ → Bool) (n : ℕ) → ((j : ℕ) → j < n → f j ≡ g j) → collect f n ≡ collect g n
unfolding collect
collect-same f g zero same = refl
collect-same f g (suc n) same =
    ap₂ (λ (x : ℕ) (t : Bool). x + cond t (2 ^ n) 0) (collect-same f g n (λ j h. same j (omega arith))) (same n (omega arith))

module _ (f : ℕ → Bool) (i : ℕ) where
  collect-after : (n : ℕ) → collect f (i + n) ≡ collect f i + collect (λ j. f (i + j)) n * 2 ^ i
  unfolding collect
  collect-after zero = rw add-zero (omega arith)
  collect-after (suc n) = rw add-suc (at (f (i + n)) (collect-after n))
    where
      rest : ℕ
      rest = collect (λ j. f (i + j)) n

      at : (t : Bool) → collect f (i + n) ≡ collect f i + rest * 2 ^ i
          → collect f (i + n) + cond t (2 ^ (i + n)) 0 ≡ collect f i + (rest + cond t (2 ^ n) 0) * 2 ^ i
      at true ih = rw (ih, pow-add 2 i n) (omega arith)
      at false ih = rw ih (omega arith)

  -- moved up by i places, none of them leaves the word
  moved-kept : (n : ℕ) → i + n ≤ 64 → collect (λ j. f (i + j)) n * 2 ^ i % 2 ^ 64 ≡ collect (λ j. f (i + j)) n * 2 ^ i
  moved-kept n h =
      let small : 2 ^ (i + n) ≤ 2 ^ 64 = pow_mono h in
      mod-eq_of_lt (omega (arith, collect-after n, collect-below f (i + n)))

  pub run-joined : (g : ℕ → Bool) (n m bits run : ℕ) → bits ≡ collect f i → run ≡ collect g m → m ≡ n
      → ((j : ℕ) → j < n → g j ≡ f (i + j)) → i + n ≤ 64 → union bits (run * 2 ^ i % 2 ^ 64) ≡ collect f (i + n)
  run-joined g n m bits run done is all same h =
      let told : run ≡ collect (λ j. f (i + j)) n = is ∙ ap (collect g) all ∙ collect-same g (λ j. f (i + j)) n same in
      ap₂ (λ (x y : ℕ). union x (y * 2 ^ i % 2 ^ 64)) done told
      ∙ ap (union (collect f i)) (moved-kept n h)
      ∙ or_shifted_r (collect (λ j. f (i + j)) n) i (collect f i) (collect-below f i)
      ∙ omega (arith, collect-after n)

-- ---- n label records from place p on, within one block
pub record Run (im : List ℕ) (shape : Shape) (p n : ℕ) : Type 0 where
  pub fitted : Fitted im
  pub shaped : Shaped im Label shape
  pub some : 1 ≤ n
  pub near : n ≤ shape.capacity - record_slot shape p
  pub among : p + n ≤ labels im

module _ {im : List ℕ} {shape : Shape} {p n : ℕ} (run : Run im shape p n) where
  pub size_is : shape.size ≡ record_size (edition_of im) Label
  size_is = ap (λ (x : Shape). x.size) run.shaped.is

  -- where each of them begins
  offset-is : (j : ℕ) → j < n → record_offset shape p + shape.size * j ≡ record_offset (shape_of im Label) (p + j)
  offset-is j h =
      sym (same_block shape run.shaped.roomy p j (omega (arith, run.near)))
      ∙ ap (λ (x : Shape). record_offset x (p + j)) run.shaped.is

  pub run_fits : record_offset shape p + shape.size * n ≤ length im
  run_fits =
      let last : suc (n - 1) ≡ n = omega (arith, run.some) in
      let m : shape.size * suc (n - 1) ≡ shape.size * (n - 1) + shape.size = mul-suc shape.size (n - 1) in
      let e : shape.size * suc (n - 1) ≡ shape.size * n = ap (λ (x : ℕ). shape.size * x) last in
      let before : n - 1 < n = omega (arith, run.some) in
      let there : p + (n - 1) < labels im = omega (arith, run.some, run.among) in
      omega (arith, offset-is (n - 1) before, record-inside im run.fitted Label (p + (n - 1)) there, size_is)

  reads_at : (edition : Edition) → edition ≡ edition_of im → (rights : Rights) (j : ℕ) → j < n
      → reads_label rights (record_label edition (part (part im (record_offset shape p) (shape.size * n)) (shape.size * j) shape.size))
      ≡ reads_record im rights (p + j)
  unfolding reads_record label_at record_at
  reads_at edition is rights j h =
      let m : shape.size * suc j ≤ shape.size * n = mul-le-mul_left shape.size h in
      let s : shape.size * suc j ≡ shape.size * j + shape.size = mul-suc shape.size j in
      let there : p + j < labels im = omega (arith, run.among) in
      rw (
        part-part im (record_offset shape p) (shape.size * n) (shape.size * j) shape.size (omega arith),
        offset-is j h,
        size_is,
        is,
        lt-ltb (p + j) (labels im) there,
      )

  -- as code takes them, from `at` on
  module _ (at : ℕ) (begins : at ≡ record_offset shape p) where
    run-taken : take (at + shape.size * n - at) (drop at im) ≡ part im (record_offset shape p) (shape.size * n)
    run-taken = part-taken im at (shape.size * n) ∙ ap (λ (k : ℕ). part im k (shape.size * n)) begins

    run_long : length (take (at + shape.size * n - at) (drop at im)) ≡ shape.size * n
    run_long = ap length run-taken ∙ part_length im (record_offset shape p) (shape.size * n) run_fits

    pub run-whole : length (take (at + shape.size * n - at) (drop at im)) % shape.size ≡ 0
    run-whole = ap (λ (l : ℕ). l % shape.size) run_long ∙ mul-mod_right shape.size n

    pub run-count : length (take (at + shape.size * n - at) (drop at im)) / shape.size ≡ n
    run-count =
        let positive : 0 < shape.size = omega (arith, size_is, size-least (edition_of im) Label) in
        ap (λ (l : ℕ). l / shape.size) run_long ∙ mul-div_right n positive

    pub run-reads : (edition : Edition) → edition ≡ edition_of im → (rights : Rights) (j : ℕ) → j < n
        → reads_label rights (record_label edition (part (take (at + shape.size * n - at) (drop at im)) (shape.size * j) shape.size))
        ≡ reads_record im rights (p + j)
    run-reads edition is rights j h =
        ap (λ (s : List ℕ). reads_label rights (record_label edition (part s (shape.size * j) shape.size))) run-taken
        ∙ reads_at edition is rights j h
