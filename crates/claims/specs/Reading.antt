-- A session by whose labels alone a row is readable: its user holds none of READ, FULL and COMPACCESS. The other four privileges have no
-- effect on verdicts.
use Rattle.std.specs.Prelude.{ℕ, ◌≡◌, false, List}
use Rattle.sets.specs.Sets.{has}
use Rattle.header.specs.Layout.{user_record}
use Rattle.records.specs.Fields.{privileges, place_of_read, place_of_full, has_compaccess}

pub record NoPrivileges (im : List ℕ) (u : ℕ) : Type 0 where
  pub read : has (privileges (user_record im u)) place_of_read ≡ false
  pub full : has (privileges (user_record im u)) place_of_full ≡ false
  pub compaccess : has_compaccess (privileges (user_record im u)) ≡ false
