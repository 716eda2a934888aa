-- The shape of label text, read byte by byte. proofs/Reading.antt shows that a text ends well exactly if it has the shape.
use Rattle.std.specs.Prelude.{ℕ, Bool, true, false, cond, List, [], ◌∷◌, eqb}
use Rattle.fields.specs.Bytes.{byte_at}
use Rattle.labels.specs.declared.shape.State.{State}
use Rattle.labels.specs.declared.shape.State.TheVariants.{Start, Level, Lists, First, FirstNext, Second, InSecond, Wrong}
use Rattle.labels.specs.Text.{comma, colon, text_byte}

-- the byte at place i is one of a name
abbrev pub text_byte_at : List ℕ → ℕ → Bool
text_byte_at text i = text_byte (byte_at text i)

abbrev pub after_name_byte : State → State
after_name_byte Start = Level
after_name_byte Level = Level
after_name_byte Lists = First
after_name_byte First = First
after_name_byte FirstNext = First
after_name_byte Second = InSecond
after_name_byte InSecond = InSecond
after_name_byte Wrong = Wrong

-- a comma ends a name of a list, and another has to follow
abbrev pub after_comma : State → State
after_comma Start = Wrong
after_comma Level = Wrong
after_comma Lists = Wrong
after_comma First = FirstNext
after_comma FirstNext = Wrong
after_comma Second = Wrong
after_comma InSecond = Second
after_comma Wrong = Wrong

-- a colon ends the level, the first list, or an empty first list
abbrev pub after_colon : State → State
after_colon Start = Wrong
after_colon Level = Lists
after_colon Lists = Second
after_colon First = Second
after_colon FirstNext = Wrong
after_colon Second = Wrong
after_colon InSecond = Wrong
after_colon Wrong = Wrong

abbrev pub after_byte : State → ℕ → State
after_byte state x =
    cond (text_byte x) (after_name_byte state) (cond (eqb x comma) (after_comma state) (cond (eqb x colon) (after_colon state) Wrong))

unfoldable pub after_all : State → List ℕ → State
after_all state [] = state
after_all state (x ∷ xs) = after_all (after_byte state x) xs

-- a text may end inside a name only
abbrev pub ends_well : State → Bool
ends_well Start = false
ends_well Level = true
ends_well Lists = false
ends_well First = true
ends_well FirstNext = false
ends_well Second = false
ends_well InSecond = true
ends_well Wrong = false
