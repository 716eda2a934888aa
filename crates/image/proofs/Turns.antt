-- The loop that looks for a tag by halves: where a tag stands, what a step does, and what a turn leaves. Assumes nothing.
use Prim.Native.Nat.{ℕ, suc, zero-le, ◌+◌, ◌-◌, ◌*◌, ◌%◌, ◌^◌, ◌≤◌, ◌<◌}
use mathlib.Core.Path.{◌≡◌, refl, sym, ap, ◌∙◌}
use mathlib.Core.List.{List}
use native.Mathlib.Nat.{le_refl}
use native.Mathlib.Omega.{arith}
use borrow.Author.Tests.{eq-eqb, ne_eqb, lt-ltb, le-ltb}
use lib.Pow.{pow_pos, pow_mono}
use Rattle.sets.proofs.Bounds.{one_shifted}
use Rattle.header.specs.declared.layout.Kind.TheVariants.{Label}
use Rattle.header.specs.declared.layout.Shape.{Shape}
use Rattle.header.specs.Layout.{labels, Shaped}
use Rattle.image.specs.Search.{search_within, search_steps, search_tag}
use Rattle.image.proofs.Halves.{tag_at, middle_of}

-- ---- what a step does
module _ (im : List ℕ) (tag n low : ℕ) where
  step_past : labels im ≤ middle_of n low → search_within im tag (suc n) low ≡ search_within im tag n low
  unfolding search_within
  step_past h = rw (le-ltb (middle_of n low) (labels im) h)

  module _ (h : middle_of n low < labels im) where
    step_after : tag_at im (middle_of n low) < tag → search_within im tag (suc n) low ≡ search_within im tag n (middle_of n low + 1)
    unfolding search_within
    step_after l = rw (lt-ltb (middle_of n low) (labels im) h, lt-ltb (tag_at im (middle_of n low)) tag l)

    step-found : tag_at im (middle_of n low) ≡ tag → search_within im tag (suc n) low ≡ middle_of n low
    unfolding search_within
    step-found e =
        let found = tag_at im (middle_of n low) in
        rw (lt-ltb (middle_of n low) (labels im) h, le-ltb found tag (omega arith), eq-eqb found tag e)

    step-before : tag < tag_at im (middle_of n low) → search_within im tag (suc n) low ≡ search_within im tag n low
    unfolding search_within
    step-before l =
        let found = tag_at im (middle_of n low) in
        rw (lt-ltb (middle_of n low) (labels im) h, le-ltb found tag (omega arith), ne_eqb found tag (λ e. omega arith))

-- ---- a loop that searches, with `left` steps to go: what is left gives what the whole gives
pub record Searching (im : List ℕ) (tag count low left : ℕ) : Type 0 where
  pub counted : count ≡ labels im
  pub steps : left ≤ search_steps
  pub inside : low ≤ labels im
  pub gives : search_within im tag left low ≡ search_tag im tag

pub search-start : (im : List ℕ) (tag : ℕ) (shape : Shape) → Shaped im Label shape → Searching im tag shape.count 0 search_steps
unfolding search_tag
search-start im tag shape s =
    record { counted = ap (λ (x : Shape). x.count) s.is; steps = le_refl search_steps; inside = zero-le; gives = refl }

-- what the code adds to low in a turn
pub half-fits : (left : ℕ) → 0 < left → left ≤ search_steps
    → (1 ≤ 1 * 2 ^ (left - 1) % 2 ^ 64) × (1 * 2 ^ (left - 1) % 2 ^ 64 ≤ 1024)
half-fits left some few =
    let most : left - 1 ≤ 10 = omega arith in
    let is = one_shifted (left - 1) 64 (omega arith) in
    (omega (arith, is, pow_pos (left - 1)), omega (arith, is, pow_mono most))

-- a turn at m, which is the middle as the code has it
module _ (im : List ℕ) (tag count low left m : ℕ) (s : Searching im tag count low left) (some : 0 < left)
    (e : m ≡ low + 1 * 2 ^ (left - 1) % 2 ^ 64 - 1) where
  at-middle : m ≡ middle_of (left - 1) low
  at-middle = e ∙ ap (λ (x : ℕ). low + x - 1) (one_shifted (left - 1) 64 (omega (arith, s.steps)))

  one_more : search_within im tag (suc (left - 1)) low ≡ search_tag im tag
  one_more = let q : suc (left - 1) ≡ left = omega arith in rw q s.gives

  gone-on : search_within im tag (left - 1) low ≡ search_tag im tag → Searching im tag count low (left - 1)
  gone-on g = record { counted = s.counted; steps = omega (arith, s.steps); inside = s.inside; gives = g }

  pub search-past : count ≤ m → Searching im tag count low (left - 1)
  search-past h = gone-on (sym (step_past im tag (left - 1) low (omega (arith, s.counted, at-middle))) ∙ one_more)

  module _ (h : m < count) where
    there : middle_of (left - 1) low < labels im
    there = omega (arith, s.counted, at-middle)

    pub search-after : tag_at im m < tag → Searching im tag count (m + 1) (left - 1)
    search-after l = record {
      counted = s.counted;
      steps = omega (arith, s.steps);
      inside = omega (arith, s.counted);
      gives = rw at-middle (sym (step_after im tag (left - 1) low there (rw (← at-middle) l)) ∙ one_more);
    }

    pub search-found : tag_at im m ≡ tag → m ≡ search_tag im tag
    search-found q = at-middle ∙ sym (step-found im tag (left - 1) low there (rw (← at-middle) q)) ∙ one_more

    pub search-before : tag < tag_at im m → Searching im tag count low (left - 1)
    search-before l = gone-on (sym (step-before im tag (left - 1) low there (rw (← at-middle) l)) ∙ one_more)

pub search-end : (im : List ℕ) (tag count low left : ℕ) → Searching im tag count low left → left ≤ 0 → count ≡ search_tag im tag
unfolding search_within
search-end im tag count low left s none =
    let z : left ≡ 0 = omega arith in
    s.counted ∙ (rw z at s.gives)
