-- The answer of a call that writes to the front of a lent buffer, and the buffer after it.
use Rattle.std.specs.Prelude.{ℕ, cond, List, leb, length, Ok, Err}
use Rattle.refusals.specs.declared.Refusal.{Refusal}
use Rattle.refusals.specs.declared.Refusal.TheVariants.{Room}
use Rattle.refusals.specs.Answers.{Amount}
use Rattle.buffers.specs.Pasting.{at_front}

-- a refusal leaves the buffer as it was
abbrev pub unfilled : List ℕ → Refusal → Amount × List ℕ
unfilled buffer r = (Err r, buffer)

-- the bytes at the buffer's front, and how many; 13 where it is shorter. Later bytes stay
abbrev pub written_to : List ℕ → List ℕ → Amount × List ℕ
written_to buffer bytes = cond (leb (length bytes) (length buffer)) (Ok (length bytes), at_front bytes buffer) (unfilled buffer Room)
