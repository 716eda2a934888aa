-- The main theorems.
--     ReadsDominated  a session without privileges reads what its label dominates
--     MaraDominates   an instance of that on the sample
--     Moves           when a move up is done or refused, and the sample moved up
--     MapClaims       the main theorems on maps
--     TextClaims      the main theorems on small letters in label text
--     WriteClaims     the main theorems on images written from records and taken apart
--     WriteInstance   instances of them on the sample
--     Held            the session that any bytes stand for, and the C functions on them
--     CFunctions      hidden rows stay hidden from who calls the C functions
--     CInstance       an instance of that on the sample
pub mod Claims
pub mod ReadsDominated
pub mod MaraDominates
pub mod Moves
pub mod MapClaims
pub mod TextClaims
pub mod WriteClaims
pub mod WriteInstance
pub mod Held
pub mod CFunctions
pub mod CInstance
