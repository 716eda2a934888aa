-- Laws that several proofs use, and what the crates above may cite.
pub mod Alphabet
pub mod Reading
pub mod Runs
pub mod PartEnds
pub mod Splitting
pub mod Classes
pub mod Unique
pub mod Naming
pub mod ListWords
pub mod Tells
pub mod Letters
pub mod Existing
pub mod Joining
pub mod Offsets
