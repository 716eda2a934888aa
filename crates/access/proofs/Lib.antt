-- The laws of `specs/` by subject.
--     Tests     tests that hold of more where their parts do
--     ReadTests the tests of a row that is read, one after the other
--     Answers   what an accepted answer of the rules for new labels means, and the other way
--     More      more rights never hide a row
--     Maximum   what a session reads lies inside what the maximum read label reads
--     Writable  a writable row is readable
pub mod Tests
pub mod ReadTests
pub mod Answers
pub mod More
pub mod Maximum
pub mod Released
pub mod Writable
