-- When an image is accepted, and what may be asked of an accepted one.
pub mod Faults
pub mod Check
pub mod Exactly
pub mod Walk
pub mod Lookup
pub mod Search
