-- The laws of `specs/` by subject.
--     Digits        a number's digits
--     Joined        a line, its name, tag and ending one after the other
--     Turns         the lines of a user that are left, and the loop that fills a buffer with them
--     Rest          what is left at a cursor, a part from there on, and the parts of a run joined
--     RefusalText   the line of a refusal
--     Saying        the report says what the calls say; input past the buffer
pub mod Digits
pub mod Joined
pub mod Turns
pub mod Rest
pub mod RefusalText
pub mod Saying
