-- The first part of a text and the parts after it, and how a loop that looks for a mark finds its end. Assumes nothing.
use Prim.Native.Nat.{ℕ, zero, suc, ◌+◌, ◌-◌, ◌≤◌, ◌<◌}
use mathlib.Core.Path.{◌≡◌, refl, sym, ap, ◌∙◌}
use mathlib.Core.Bool.{Bool, true, false, cond, true≢false}
use mathlib.Core.List.{List, [], ◌∷◌}
use native.Mathlib.Nat.{add-zero, add-sub_cancel_left, le_refl}
use native.Mathlib.Numerals.{add-one}
use native.Mathlib.Omega.{arith}
use borrow.Author.Tests.{eq-eqb, eqb-true, ne_eqb, lt-ltb, le-ltb, ltb-true, ltb-false, not-false}
use lib.Dec.{eqb, ltb}
use lib.ListN.{length, get_or, take, drop, drop_of_length-le, length-drop}
use lib.Seq.{drop-cons, drop-drop}
use Rattle.labels.specs.Text.{onto, split}
use Rattle.fields.specs.Scan.{first_bad, everywhere}
use Rattle.fields.proofs.Scan.{bad-from, bad-at, good-before, everywhere-at}
use Rattle.fields.proofs.Everywhere.{everywhere-holds, everywhere-within}
use Rattle.labels.specs.Lists.{until_mark, lacks_at, after_mark}
use Rattle.labels.proofs.PartEnds.{ends-inside}

-- ---- the loop: what is left gives what the whole gives
module _ (mark : ℕ) (s : List ℕ) (i w : ℕ) where
  pub until_stop : i < length s → i + until_mark mark (drop i s) ≡ w → get_or s i 0 ≡ mark → i ≡ w
  unfolding until_mark
  until_stop h inv e = omega (arith, rw (drop-cons s i 0 h, eq-eqb _ _ e) at inv)

  pub until-step : i < length s → i + until_mark mark (drop i s) ≡ w → (get_or s i 0 ≡ mark → ⊥) → i + 1 + until_mark mark (drop (i + 1) s) ≡ w
  unfolding until_mark
  until-step h inv n = rw (add-one i) (omega (arith, rw (drop-cons s i 0 h, ne_eqb _ _ n) at inv))

  pub until-done : length s ≤ i → i + until_mark mark (drop i s) ≡ w → i ≡ w
  unfolding until_mark
  until-done h inv = omega (arith, rw (drop_of_length-le s h) at inv)

-- n places without the mark are passed over
pub until-past : (mark : ℕ) (s : List ℕ) (i w n : ℕ) → i + n ≤ length s → i + until_mark mark (drop i s) ≡ w → everywhere (lacks_at mark s) n i ≡ true
    → i + n + until_mark mark (drop (i + n) s) ≡ w
until-past mark s i w zero h inv good = rw add-zero inv
until-past mark s i w (suc n) h inv good =
    let before = until-past mark s i w n (omega arith) inv (everywhere-within (lacks_at mark s) (suc n) i n i (le_refl i) (omega arith) good) in
    let other = everywhere-at (lacks_at mark s) (suc n) i (i + n) good (omega arith) (omega arith) in
    let e : i + suc n ≡ i + n + 1 = omega arith in
    rw e (until-step mark s (i + n) w (omega arith) before (λ q. true≢false (sym other ∙ rw (eq-eqb _ _ q))))

-- one of n places that holds the mark ends the search
pub until-within : (mark : ℕ) (s : List ℕ) (i w n : ℕ) → i + n ≤ length s → i + until_mark mark (drop i s) ≡ w
    → everywhere (lacks_at mark s) n i ≡ false → first_bad (lacks_at mark s) n i ≡ w
until-within mark s i w n h inv some =
    let rule = lacks_at mark s in
    let f = first_bad rule n i in
    let low : i ≤ f = bad-from rule n i in
    let high : f < i + n = ends-inside rule n i some in
    let q : i + (f - i) ≡ f = omega arith in
    let good = everywhere-holds rule (f - i) i (λ j a b. good-before rule n i j a (omega arith)) in
    let past = rw q at (until-past mark s i w (f - i) (omega arith) inv good) in
    until_stop mark s f w (omega arith) past (eqb-true _ _ (not-false _ (bad-at rule n i high)))

-- so the first place from `at` on that does not lack the mark is where the search ends
pub until-bad : (mark : ℕ) (s : List ℕ) (at : ℕ) → at ≤ length s → at + until_mark mark (drop at s) ≡ first_bad (lacks_at mark s) (length s - at) at
until-bad mark s at h = go (everywhere (lacks_at mark s) (length s - at) at) refl
  where
    n : ℕ
    n = length s - at

    go : (t : Bool) → everywhere (lacks_at mark s) n at ≡ t → at + until_mark mark (drop at s) ≡ first_bad (lacks_at mark s) n at
    go true e = sym (until-done mark s (at + n) _ (omega arith) (until-past mark s at _ n (omega arith) refl e)) ∙ sym (eqb-true _ _ e)
    go false e = sym (until-within mark s at _ n (omega arith) refl e)

-- ---- the first part ends at the first mark
pub ltb-suc : (u n : ℕ) → ltb u n ≡ ltb (suc u) (suc n)
ltb-suc u n = go (ltb u n) refl
  where
    go : (t : Bool) → ltb u n ≡ t → t ≡ ltb (suc u) (suc n)
    go true e = sym (lt-ltb (suc u) (suc n) (omega (arith, ltb-true u n e)))
    go false e = sym (le-ltb (suc u) (suc n) (omega (arith, ltb-false u n e)))

split-first : (mark : ℕ) (s : List ℕ)
    → split mark s ≡ take (until_mark mark s) s ∷ cond (ltb (until_mark mark s) (length s)) (split mark (drop (suc (until_mark mark s)) s)) []
unfolding split until_mark
split-first mark [] = refl
split-first mark (x ∷ xs) = at (eqb x mark) (split-first mark xs)
  where
    at : (t : Bool)
        → split mark xs ≡ take (until_mark mark xs) xs ∷ cond (ltb (until_mark mark xs) (length xs)) (split mark (drop (suc (until_mark mark xs)) xs)) []
        → cond t ([] ∷ split mark xs) (onto x (split mark xs))
        ≡ take (cond t 0 (suc (until_mark mark xs))) (x ∷ xs)
        ∷ cond (ltb (cond t 0 (suc (until_mark mark xs))) (length (x ∷ xs)))
        (split mark (drop (suc (cond t 0 (suc (until_mark mark xs)))) (x ∷ xs))) []
    at true later = rw (lt-ltb 0 (suc (length xs)) (omega arith))
    at false later = rw (later, ltb-suc (until_mark mark xs) (length xs))

ltb-shift : (at u n : ℕ) → at ≤ n → ltb u (n - at) ≡ ltb (at + u) n
ltb-shift at u n h = go (ltb u (n - at)) refl
  where
    go : (t : Bool) → ltb u (n - at) ≡ t → t ≡ ltb (at + u) n
    go true e = sym (lt-ltb (at + u) n (omega (arith, ltb-true u (n - at) e)))
    go false e = sym (le-ltb (at + u) n (omega (arith, ltb-false u (n - at) e)))

drop-shift : (text : List ℕ) (at u : ℕ) → drop (suc u) (drop at text) ≡ drop (at + u + 1) text
drop-shift text at u =
    let e : at + suc u ≡ at + u + 1 = omega arith in
    drop-drop (suc u) at text ∙ ap (λ (n : ℕ). drop n text) e

-- the parts from `at` on, the first of which ends at r
pub split_from : (mark : ℕ) (text : List ℕ) (at r : ℕ) → at ≤ length text → r ≡ at + until_mark mark (drop at text)
    → split mark (drop at text) ≡ take (r - at) (drop at text) ∷ after_mark mark text r
split_from mark text at r h e =
    split-first mark (drop at text)
    ∙ rw (
      length-drop at text,
      ltb-shift at (until_mark mark (drop at text)) (length text) h,
      drop-shift text at (until_mark mark (drop at text)),
      e,
      add-sub_cancel_left,
    )
