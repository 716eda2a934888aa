use mathlib.Core.Path.{refl}
use native.Mathlib.Omega.{arith}
use lib.ListN.{get_or-replicate}
use borrow.Author.Rules.{rules}
use Rattle.hierarchy.proofs.order.put_order.Goals as goal

pub place_all-requires : goal.place_all-requires
place_all-requires c = record { count_le_table_room = (c.requires, (search rules, refl)); by_index = λ g h. get_or-replicate 256 g 0 0 (omega arith) }
