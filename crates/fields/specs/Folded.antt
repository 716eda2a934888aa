-- Two runs of bytes compared place by place, the second in capitals.
use Rattle.std.specs.Prelude.{ℕ, Bool, List, eqb}
use Rattle.fields.specs.Bytes.{byte_at}
use Rattle.fields.specs.Names.{folded}

-- byte i of b, folded, is that of a
abbrev pub same_folded_at : List ℕ → List ℕ → ℕ → Bool
same_folded_at a b i = eqb (byte_at a i) (folded (byte_at b i))
