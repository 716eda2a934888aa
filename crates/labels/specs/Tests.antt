-- A test of a byte, asked of the bytes of a text.
use Rattle.std.specs.Prelude.{ℕ, Bool, List}
use Rattle.fields.specs.Bytes.{byte_at}

-- the byte at place i passes the test
abbrev pub passes_at : (ℕ → Bool) → List ℕ → ℕ → Bool
passes_at test text i = test (byte_at text i)
