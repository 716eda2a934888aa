-- The laws of the C functions by subject.
--     Places      the place that a refusal tells fits its 32 bits: sessions, prints, dominance, merges, moves
--     RowPlaces   and tables; a count of rows is below 2 ^ 63
--     MapPlaces   and maps
--     WritePlaces and what is lent to the writer
--     Widths      a session that keeps its rules fits its bytes
--     Refusing    what a call on a refused session answers
--     InBytes     a call on a session in bytes is the call on that session
--     Storing     a changed session that is laid down
pub mod Places
pub mod RowPlaces
pub mod MapPlaces
pub mod WritePlaces
pub mod Widths
pub mod Refusing
pub mod InBytes
pub mod Storing
