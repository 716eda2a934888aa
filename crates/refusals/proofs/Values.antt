-- Which refusals hold no value, for a `match` whose last arm is theirs. Assumes nothing.
use mathlib.Core.Path.{◌≡◌, refl}
use mathlib.Core.List.{[]}
use Prim.Native.Nat.{ℕ}
use Rattle.refusals.specs.Refusals.{values_of}
use Rattle.refusals.specs.declared.Refusal.{Refusal}
use Rattle.refusals.specs.declared.Refusal.TheVariants.{ImageLength, BlockCheck, ImageLayout, ComponentRecord, LabelRecord, UserRecord, ParentRing, NoUser, TextShape, UnknownName, RepeatedName}
use Rattle.refusals.specs.declared.Refusal.TheVariants.{LevelNotAllowed, CompartmentsNotAllowed, GroupsNotAllowed, RowLabelOutside, TableShape, Room}
use Rattle.refusals.specs.declared.Refusal.TheVariants.{NoRow, RowNotWritable, PayloadLength, MergeLetters, NoComponent, SessionRules, WrongMap, CompaccessHolders, MoveLimits}

-- a refusal that is none of those that hold a value holds none
pub others-none : (r : Refusal)
    → ((x : ℕ) → r ≡ BlockCheck x → ⊥)
    → ((x y : ℕ) → r ≡ ComponentRecord x y → ⊥)
    → ((x y : ℕ) → r ≡ LabelRecord x y → ⊥)
    → ((x y : ℕ) → r ≡ UserRecord x y → ⊥)
    → ((x : ℕ) → r ≡ ParentRing x → ⊥)
    → ((x : ℕ) → r ≡ UnknownName x → ⊥)
    → ((x : ℕ) → r ≡ RepeatedName x → ⊥)
    → ((x : ℕ) → r ≡ CompaccessHolders x → ⊥)
    → values_of r ≡ []
others-none ImageLength _ _ _ _ _ _ _ _ = refl
others-none (BlockCheck block) h _ _ _ _ _ _ _ = absurd (h block refl)
others-none ImageLayout _ _ _ _ _ _ _ _ = refl
others-none (ComponentRecord block slot) _ h _ _ _ _ _ _ = absurd (h block slot refl)
others-none (LabelRecord block slot) _ _ h _ _ _ _ _ = absurd (h block slot refl)
others-none (UserRecord block slot) _ _ _ h _ _ _ _ = absurd (h block slot refl)
others-none (ParentRing group) _ _ _ _ h _ _ _ = absurd (h group refl)
others-none NoUser _ _ _ _ _ _ _ _ = refl
others-none TextShape _ _ _ _ _ _ _ _ = refl
others-none (UnknownName offset) _ _ _ _ _ h _ _ = absurd (h offset refl)
others-none (RepeatedName offset) _ _ _ _ _ _ h _ = absurd (h offset refl)
others-none LevelNotAllowed _ _ _ _ _ _ _ _ = refl
others-none CompartmentsNotAllowed _ _ _ _ _ _ _ _ = refl
others-none GroupsNotAllowed _ _ _ _ _ _ _ _ = refl
others-none RowLabelOutside _ _ _ _ _ _ _ _ = refl
others-none TableShape _ _ _ _ _ _ _ _ = refl
others-none Room _ _ _ _ _ _ _ _ = refl
others-none NoRow _ _ _ _ _ _ _ _ = refl
others-none RowNotWritable _ _ _ _ _ _ _ _ = refl
others-none PayloadLength _ _ _ _ _ _ _ _ = refl
others-none MergeLetters _ _ _ _ _ _ _ _ = refl
others-none NoComponent _ _ _ _ _ _ _ _ = refl
others-none SessionRules _ _ _ _ _ _ _ _ = refl
others-none WrongMap _ _ _ _ _ _ _ _ = refl
others-none (CompaccessHolders count) _ _ _ _ _ _ _ h = absurd (h count refl)
others-none MoveLimits _ _ _ _ _ _ _ _ = refl
