-- The proof that hidden rows stay hidden. `HiddenRows` has the theorem; the files come in the order in which they build on each other.
--     Keeping     keeping the rows that pass a test, and changing the n-th of them
--     Reach       what a user's session reads lies in the list at the maximum
--     Updated     the table after a row was changed, in any way that keeps its length
--     Agree       a row call answers the same on two tables that are alike for the user
--     Alike       a call that changes a row leaves the two tables alike, and hidden rows as they were
--     Next        one call, on two tables
--     Buffers     what a buffer held before a read shows in no answer
--     HiddenRows  a whole sequence
pub mod Keeping
pub mod Reach
pub mod Updated
pub mod Agree
pub mod Alike
pub mod Next
pub mod Buffers
pub mod HiddenRows
