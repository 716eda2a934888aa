-- How labels and sessions stand in bytes, and answers in one number.
pub mod Labels
pub mod Sessions
pub mod Verdicts
