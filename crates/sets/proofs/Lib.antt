-- The laws of `specs/` by subject, for the proofs of this crate and of the crates above. Each holds at any width.
--     Has       which places each operation's result has; sets with the same places are equal
--     Within    inclusion, by places and as an order
--     Meets     common places, and empty sets
--     Bounds    sets of places below n are the numbers below 2 ^ n; every operation stays there
--     Lowest    the lowest place, and a set without one of its places
--     Words     a set and its words of 64 places: its places and bounds; each gives the other
--     EachWord  operations, tests and the lowest place word by word, for any number of words
--     Places    the places of a `Groups` value are below `width`
--     FourRows  the loop of a stage of a transposition
--     Masks     the masks of its steps
--     Squares   64 rows of 64 places, transposed in six steps
pub mod Has
pub mod Within
pub mod Meets
pub mod Bounds
pub mod Lowest
pub mod Words
pub mod EachWord
pub mod Places
pub mod FourRows
pub mod Masks
pub mod Squares
