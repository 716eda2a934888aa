-- Laws that several proofs use, and what the crates above may cite.
pub mod Pasted
pub mod Stored
pub mod Left
pub mod FrontWritten
