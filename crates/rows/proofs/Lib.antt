-- Laws that several proofs use, and what the crates above may cite.
pub mod Standing
pub mod Wide
pub mod Held
pub mod Scanning
pub mod Adding
pub mod Finding
pub mod Replacing
pub mod Answered
pub mod Giving
pub mod Nth
pub mod ByMap
pub mod HeldTags
pub mod CompleteTags
pub mod MadeMap
pub mod EveryRow
pub mod FirstBytes
