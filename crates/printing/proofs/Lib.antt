-- Laws that several proofs use, and what the crates above may cite.
pub mod Listed
pub mod Written
pub mod Sections
pub mod Whole
pub mod Answered
