-- Bytes, called a text here, written over those of a lent buffer.
use Rattle.std.specs.Prelude.{ℕ, ◌+◌, ◌≡◌, List, ◌++◌, length, take, drop}

-- the text at the buffer's front; later bytes stay
abbrev pub at_front : List ℕ → List ℕ → List ℕ
at_front text buffer = text ++ drop (length text) buffer

-- the buffer with the text written over its bytes from `at` on
unfoldable pub pasted : List ℕ → ℕ → List ℕ → List ℕ
pasted buffer at text = take at buffer ++ text ++ drop (at + length text) buffer

-- what writing a text at `at` leaves: the buffer, and where the text ends
pub record Written (buffer : List ℕ) (at : ℕ) (text after : List ℕ) (end : ℕ) : Type 0 where
  pub bytes : after ≡ pasted buffer at text
  pub stop : end ≡ at + length text
