-- The fault with the lowest key, of faults in runs of rising keys: of two runs one after the other it is the first's, where the first has a
-- fault; of the places of a rule it is that of the first bad place. Assumes nothing.
use Rattle.std.specs.Prelude.{Ok, Err}
use Rattle.std.specs.Result.{result_and, IfErr, IsErrAnd}
use Rattle.std.proofs.lemmas.Result.{IfErr-at_err}
use Prim.Native.Nat.{ℕ, zero, suc, ◌+◌, ◌≤◌, ◌<◌}
use mathlib.Core.Path.{◌≡◌, refl, sym, ◌∙◌, ap, ap₂}
use mathlib.Core.Bool.{Bool, true, false, cond, true≢false}
use mathlib.Core.List.{List, [], ◌∷◌, ◌++◌}
use mathlib.Core.Logic.{◌⊎◌, inl, inr}
use native.Mathlib.Nat.{le_refl, add-suc, suc-add}
use native.Mathlib.Omega.{arith}
use borrow.Author.Tests.{lt-ltb, le-ltb}
use lib.Dec.{ltb}
use Rattle.fields.specs.Scan.{first_bad}
use Rattle.fields.proofs.Meaning.{before-irrefl, before-trans, before-total}
use Rattle.image.specs.declared.faults.Fault.{Fault}
use Rattle.image.specs.Faults.{Inspection, no_fault, fault_where, key_of, key_before, lower, lowest, Among, here, later, fault_unless, faults_at}

-- the first fault, or else the second
abbrev pub or_else : Inspection → Inspection → Inspection
or_else f g = result_and f g

-- ---- every fault of a list
pub data All (P : Fault → Type 0) : List Fault → Type 0 where
  none : All P []
  also : {f : Fault} {fs : List Fault} → P f → All P fs → All P (f ∷ fs)

module _ {P : Fault → Type 0} where
  pub all_append : {xs ys : List Fault} → All P xs → All P ys → All P (xs ++ ys)
  all_append none q = q
  all_append (also p ps) q = also p (all_append ps q)

  pub all-unless : (t : Bool) (f : Fault) → P f → All P (fault_unless t f)
  all-unless true f p = none
  all-unless false f p = also p none

  pub all-at : (rule : ℕ → Bool) (fault : ℕ → Fault) (n k : ℕ) → ((i : ℕ) → k ≤ i → P (fault i)) → All P (faults_at rule fault n k)
  unfolding faults_at
  all-at rule fault zero k p = none
  all-at rule fault (suc n) k p =
      all_append (all-unless (rule k) (fault k) (p k (le_refl k))) (all-at rule fault n (suc k) (λ i h. p i (omega arith)))

pub all_map : {P Q : Fault → Type 0} → ((f : Fault) → P f → Q f) → {fs : List Fault} → All P fs → All Q fs
all_map g none = none
all_map g (also {f} p ps) = also (g f p) (all_map g ps)

-- ---- keys: those before a key, and those that are not
abbrev pub Upto : List ℕ → Fault → Type 0
Upto key f = key_before (key_of f) key ≡ true

abbrev pub From : List ℕ → Fault → Type 0
From key f = key_before (key_of f) key ≡ false

-- what is before the earlier key is before the later one
pub upto-later : (a b : List ℕ) → key_before a b ≡ true → (f : Fault) → Upto a f → Upto b f
upto-later a b h f e = before-trans (key_of f) a b e h

-- what is not before the later key is not before the earlier one
pub from-earlier : (a b : List ℕ) → key_before a b ≡ true → (f : Fault) → From b f → From a f
from-earlier a b h f e = at (key_before (key_of f) a) refl
  where
    at : (t : Bool) → key_before (key_of f) a ≡ t → t ≡ false
    at true d = absurd (true≢false (sym (before-trans (key_of f) a b d h) ∙ e))
    at false d = refl

-- of two keys the later is not before the earlier
pub not-before : (a b : List ℕ) → key_before a b ≡ true → key_before b a ≡ false
not-before a b h = at (key_before b a) refl
  where
    at : (t : Bool) → key_before b a ≡ t → t ≡ false
    at true d = absurd (before-irrefl a (before-trans a b a h d))
    at false d = refl

pub not_itself : (a : List ℕ) → key_before a a ≡ false
not_itself a = at (key_before a a) refl
  where
    at : (t : Bool) → key_before a a ≡ t → t ≡ false
    at true d = absurd (before-irrefl a d)
    at false d = refl

-- ---- the lowest of a list
-- what holds of a fault, and of what is found after it, holds of the lower
lower-keeps : (P : Fault → Type 0) (f : Fault) (r : Inspection) → P f → IfErr r P → IfErr (lower f r) P
lower-keeps P f (Ok sound) p q = p
lower-keeps P f (Err g) p q = at (key_before (key_of g) (key_of f))
  where
    at : (t : Bool) → IfErr (fault_where t g (Err f)) P
    at true = q
    at false = p

lowest-keeps : {P : Fault → Type 0} {fs : List Fault} → All P fs → IfErr (lowest fs) P
unfolding lowest
lowest-keeps none = tt
lowest-keeps (also {f} {fs} p ps) = lower-keeps _ f (lowest fs) p (lowest-keeps ps)

-- the first is the lowest, where the others' keys are not before its own
pub lowest-first : (f : Fault) {fs : List Fault} → All (From (key_of f)) fs → lowest (f ∷ fs) ≡ Err f
unfolding lowest
lowest-first f {fs} ps = at (lowest fs) (lowest-keeps ps)
  where
    at : (r : Inspection) → IfErr r (From (key_of f)) → lower f r ≡ Err f
    at (Ok sound) q = refl
    at (Err g) q = rw q

-- of two runs, the first with keys before the middle and the second from there on: the first's lowest fault, or else the second's
pub lowest-append : (middle : List ℕ) {xs ys : List Fault} → All (Upto middle) xs → All (From middle) ys
    → lowest (xs ++ ys) ≡ or_else (lowest xs) (lowest ys)
unfolding lowest
lowest-append middle none q = refl
lowest-append middle {ys = ys} (also {f} {fs} p ps) q =
    ap (lower f) (lowest-append middle ps q) ∙ at (lowest fs) (lowest ys) (lowest-keeps q)
  where
    chosen : (t : Bool) (g : Fault) (s : Inspection) → fault_where t g (Err f) ≡ or_else (fault_where t g (Err f)) s
    chosen true g s = refl
    chosen false g s = refl

    at : (r s : Inspection) → IfErr s (From middle) → lower f (or_else r s) ≡ or_else (lower f r) s
    at (Ok sound) (Ok both) e = refl
    at (Ok sound) (Err g) e = rw (from-earlier (key_of f) middle p g e)
    at (Err g) s e = chosen (key_before (key_of g) (key_of f)) g s

-- the same with both told
pub lowest-then : (middle : List ℕ) {xs ys : List Fault} → All (Upto middle) xs → All (From middle) ys
    → {f g : Inspection} → lowest xs ≡ f → lowest ys ≡ g → lowest (xs ++ ys) ≡ or_else f g
lowest-then middle p q e d = lowest-append middle p q ∙ ap₂ or_else e d

pub lowest-unless : (t : Bool) (f : Fault) → lowest (fault_unless t f) ≡ cond t no_fault (Err f)
unfolding lowest
lowest-unless true f = refl
lowest-unless false f = refl

-- of the places of a rule, where later places have later keys: the fault of the first bad place
module _ (rule : ℕ → Bool) (fault : ℕ → Fault) (rise : (i j : ℕ) → i < j → key_before (key_of (fault i)) (key_of (fault j)) ≡ true) where
  pub lowest-at : (n k : ℕ) → lowest (faults_at rule fault n k) ≡ fault_where (ltb (first_bad rule n k) (k + n)) (fault (first_bad rule n k)) no_fault
  unfolding lowest faults_at first_bad
  lowest-at zero k = rw (le-ltb k (k + 0) (omega arith))
  lowest-at (suc n) k = at (rule k) (lowest-at n (suc k))
    where
      rest : All (From (key_of (fault k))) (faults_at rule fault n (suc k))
      rest = all-at rule fault n (suc k) (λ i h. not-before (key_of (fault k)) (key_of (fault i)) (rise k i (omega arith)))

      at : (t : Bool)
          → lowest (faults_at rule fault n (suc k)) ≡ fault_where (ltb (first_bad rule n (suc k)) (suc k + n)) (fault (first_bad rule n (suc k))) no_fault
          → lowest (fault_unless t (fault k) ++ faults_at rule fault n (suc k))
          ≡ fault_where (ltb (cond t (first_bad rule n (suc k)) k) (k + suc n)) (fault (cond t (first_bad rule n (suc k)) k)) no_fault
      at true ih = rw (add-suc, ← suc-add) ih
      at false ih = lowest-first (fault k) rest ∙ rw (lt-ltb k (k + suc n) (omega arith))

-- ---- it is the lowest: it is one of them, and none has a key before its own
pub all_among : {P : Fault → Type 0} {f : Fault} {fs : List Fault} → All P fs → Among f fs → P f
all_among none x = elim x [ ]
all_among (also p ps) here = p
all_among (also p ps) (later there) = all_among ps there

all-listed : (fs : List Fault) → All (λ f. Among f fs) fs
all-listed [] = none
all-listed (f ∷ fs) = also here (all_map (λ g there. later there) (all-listed fs))

pub lowest-among : (fs : List Fault) (f : Fault) → lowest fs ≡ Err f → Among f fs
lowest-among fs f e = IfErr-at_err (λ g. Among g fs) e (lowest-keeps (all-listed fs))

-- keys are in order, so what is not before the second and that not before the first is not before the first
from-lower : (f g h : Fault) → From (key_of f) g → From (key_of g) h → From (key_of f) h
from-lower f g h a b = at (key_before (key_of h) (key_of f)) refl (before-total (key_of f) (key_of g))
  where
    at : (t : Bool) → key_before (key_of h) (key_of f) ≡ t
        → (key_of f ≡ key_of g) ⊎ ((key_before (key_of f) (key_of g) ≡ true) ⊎ (key_before (key_of g) (key_of f) ≡ true)) → t ≡ false
    at false e order = refl
    at true e (inl same) = absurd (true≢false (sym e ∙ ap (key_before (key_of h)) same ∙ b))
    at true e (inr (inl l)) = absurd (true≢false (sym (before-trans (key_of h) (key_of f) (key_of g) e l) ∙ b))
    at true e (inr (inr l)) = absurd (true≢false (sym l ∙ a))

-- of a fault that is listed: one is found, and its key is not after
abbrev pub NotAfter : Inspection → Fault → Type 0
NotAfter r f = IsErrAnd r (λ g. From (key_of g) f)

pub lowest-least : (fs : List Fault) → All (NotAfter (lowest fs)) fs
unfolding lowest
lowest-least [] = none
lowest-least (f ∷ fs) = at (lowest fs) (lowest-least fs)
  where
    chosen : (g : Fault) (t : Bool) → key_before (key_of g) (key_of f) ≡ t → All (From (key_of g)) fs → All (NotAfter (fault_where t g (Err f))) (f ∷ fs)
    chosen g true e rest = also (not-before (key_of g) (key_of f) e) rest
    chosen g false e rest = also (not_itself (key_of f)) (all_map (λ h q. from-lower f g h e q) rest)

    at : (r : Inspection) → All (NotAfter r) fs → All (NotAfter (lower f r)) (f ∷ fs)
    at (Ok sound) rest = also (not_itself (key_of f)) (all_map (λ h q. absurd q) rest)
    at (Err g) rest = chosen g (key_before (key_of g) (key_of f)) refl rest
