-- Sessions: opening, label changes and verdicts.
pub mod Session
pub mod Lent
pub mod Opening
pub mod Changes
pub mod Asking
