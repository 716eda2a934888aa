-- Laws that several proofs use, and what the crates above may cite.
pub mod Meaning
pub mod Cells
pub mod Lanes
pub mod Sums
pub mod Joins
