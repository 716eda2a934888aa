-- What a refusal's number tells: with the values returned beside it, the whole refusal. Numbers run from 1 to 37.
-- So what an answer gives back tells the answer. Assumes nothing.
use mathlib.Core.Path.{◌≡◌, refl, sym, ap, ap₂, ◌∙◌}
use mathlib.Core.Bool.{Bool, true, cond, ◌&&◌, and-eq-true_iff}
use mathlib.Core.List.{List, [], ◌∷◌}
use Prim.Native.Nat.{ℕ, ◌-◌, ◌/◌, ◌%◌, ◌≤◌, ◌<◌}
use lib.Dec.{leb, ltb}
use lib.ListN.{get_or}
use borrow.Author.Tests.{leb-true}
use native.Mathlib.Omega.{arith}
use Rattle.refusals.specs.Refusals.{number_of, values_of, packed_place}
use Rattle.std.proofs.Common.{Ok, Err}
use Rattle.refusals.specs.Answers.{Checked, done, refused, refusal_given, checked_given}
use Rattle.refusals.specs.declared.Refusal.{Refusal}
use Rattle.refusals.specs.declared.Refusal.TheVariants.{ImageLength, BlockCheck, ImageLayout, ComponentRecord, LabelRecord, UserRecord, ParentRing, NoUser, TextShape, UnknownName, RepeatedName}
use Rattle.refusals.specs.declared.Refusal.TheVariants.{LevelNotAllowed, CompartmentsNotAllowed, GroupsNotAllowed, RowLabelOutside, TableShape, Room}
use Rattle.refusals.specs.declared.Refusal.TheVariants.{NoRow, RowNotWritable, PayloadLength, MergeLetters, NoComponent, SessionRules, WrongMap, CompaccessHolders, MoveLimits}

-- the refusals by their numbers, 1 to 20 and then 31 to 37, each with the values p and q where it has them. No refusal has the number 3
abbrev table : ℕ → ℕ → List Refusal
table p q =
    ImageLength ∷ BlockCheck p ∷ ImageLength ∷ NoUser ∷ TextShape ∷ UnknownName p ∷ RepeatedName p ∷ LevelNotAllowed
    ∷ CompartmentsNotAllowed ∷ GroupsNotAllowed ∷ RowLabelOutside ∷ TableShape ∷ Room ∷ NoRow ∷ RowNotWritable
    ∷ PayloadLength ∷ MergeLetters ∷ NoComponent ∷ SessionRules ∷ WrongMap
    ∷ ImageLayout ∷ ComponentRecord p q ∷ LabelRecord p q ∷ UserRecord p q ∷ ParentRing p ∷ CompaccessHolders p ∷ MoveLimits ∷ []

-- the refusal with a number and values: the way back from `number_of` and `values_of`
abbrev pub refusal_of : ℕ → List ℕ → Refusal
refusal_of n values = get_or (table (get_or values 0 0) (get_or values 1 0)) (cond (ltb n 31) (n - 1) (n - 11)) ImageLength

abbrev in_range : ℕ → Bool
in_range n = leb 1 n && leb n 37

-- each line of the table: it is found again by its number and values, and its number is in the range of the table's
line : (r : Refusal) → (refusal_of (number_of r) (values_of r) ≡ r) × (in_range (number_of r) ≡ true)
line ImageLength = (refl, refl)
line (BlockCheck block) = (refl, refl)
line ImageLayout = (refl, refl)
line (ComponentRecord block slot) = (refl, refl)
line (LabelRecord block slot) = (refl, refl)
line (UserRecord block slot) = (refl, refl)
line (ParentRing group) = (refl, refl)
line NoUser = (refl, refl)
line TextShape = (refl, refl)
line (UnknownName offset) = (refl, refl)
line (RepeatedName offset) = (refl, refl)
line LevelNotAllowed = (refl, refl)
line CompartmentsNotAllowed = (refl, refl)
line GroupsNotAllowed = (refl, refl)
line RowLabelOutside = (refl, refl)
line TableShape = (refl, refl)
line Room = (refl, refl)
line NoRow = (refl, refl)
line RowNotWritable = (refl, refl)
line PayloadLength = (refl, refl)
line MergeLetters = (refl, refl)
line NoComponent = (refl, refl)
line SessionRules = (refl, refl)
line WrongMap = (refl, refl)
line (CompaccessHolders count) = (refl, refl)
line MoveLimits = (refl, refl)

pub refusal-found : (r : Refusal) → refusal_of (number_of r) (values_of r) ≡ r
refusal-found r = (line r).0

-- number and values tell the refusal
pub number-tells : (r s : Refusal) → number_of r ≡ number_of s → values_of r ≡ values_of s → r ≡ s
number-tells r s n v = sym (refusal-found r) ∙ ap₂ refusal_of n v ∙ refusal-found s

pub number-from : (r : Refusal) → 1 ≤ number_of r
number-from r = leb-true 1 (number_of r) ((and-eq-true_iff (leb 1 (number_of r)) (leb (number_of r) 37)).0 (line r).1).0

pub number-to : (r : Refusal) → number_of r ≤ 37
number-to r = leb-true (number_of r) 37 ((and-eq-true_iff (leb 1 (number_of r)) (leb (number_of r) 37)).0 (line r).1).1

-- ---- block and record, as a C caller takes them from one number
pub packed-block : (block slot : ℕ) → slot < 65536 → packed_place block slot / 65536 ≡ block
packed-block block slot h = omega arith

pub packed_slot : (block slot : ℕ) → slot < 65536 → packed_place block slot % 65536 ≡ slot
packed_slot block slot h = omega arith

-- ---- what is given back tells the answer
done_refused : (value number : ℕ) (values : List ℕ) → done value ≡ refused number values → ⊥
done_refused value number values e = let z : ◌≡◌ {A = ℕ} 0 1 = cc in omega arith

same_number : (n m : ℕ) (v w : List ℕ) → refused n v ≡ refused m w → n ≡ m
same_number n m v w e = cc

same-values : (n m : ℕ) (v w : List ℕ) → refused n v ≡ refused m w → v ≡ w
same-values n m v w e = cc

pub refusal-given-tells : (r s : Refusal) → refusal_given r ≡ refusal_given s → r ≡ s
refusal-given-tells r s e = number-tells r s (same_number _ _ _ _ e) (same-values _ _ _ _ e)

pub checked-given-tells : (c d : Checked) → checked_given c ≡ checked_given d → c ≡ d
checked-given-tells (Ok _) (Ok _) e = refl
checked-given-tells (Ok _) (Err r) e = absurd (done_refused _ _ _ e)
checked-given-tells (Err r) (Ok _) e = absurd (done_refused _ _ _ (sym e))
checked-given-tells (Err r) (Err s) e = ap Err (refusal-given-tells r s e)
