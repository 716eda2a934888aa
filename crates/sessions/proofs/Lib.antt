-- What holds of sessions, for the crates above.
--     Accepting  when a lent session is accepted
--     Passing    an opened session and a changed session always pass 19
--     Existing   the labels of an accepted session name only what the policy has
--     Bounded    what a session may read is readable at the maximum read label, and what it may write it may read
pub mod Accepting
pub mod Passing
pub mod Existing
pub mod Bounded
