-- The laws of `specs/` by subject.
--     Lineage   the walk along parents: what it meets, where it ends
--     Room      the groups fit a set and a table
--     Walks     a walk that ends takes no more steps than there are groups
--     Under     `below`: its places, and its laws as an operation on sets
--     Rings     the lowest group whose parents never end
--     Steps     what the loops that fill the table need
--     Alike     forests that are alike, as that of a table and that of the records which it was filled from
--     Ordering  an order of the groups, walk by walk
--     OrderTurns the loop that orders them
--     InOrder   `below` of a set by one pass over the order
--     OfImage   the forest and the rules of an image, by its records
--     ColumnTurns the pass over the groups for many users at once
--     ColumnRules what that pass tells of the users
--     PutSets   sets in rows, and the rows turned over
--     UsersHeld users' records where they stand, and the rule over them
--     UsersInRows users in rows, sixteen at once
--     RowsTell  what these tell of all users
pub mod Lineage
pub mod Room
pub mod Walks
pub mod Under
pub mod Rings
pub mod Steps
pub mod Alike
pub mod Ordering
pub mod OrderTurns
pub mod InOrder
pub mod OfImage
pub mod ColumnTurns
pub mod ColumnRules
pub mod PutSets
pub mod UsersHeld
pub mod UsersInRows
pub mod RowsTell
