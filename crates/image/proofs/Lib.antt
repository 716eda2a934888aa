pub mod Accepted
pub mod EveryRule
pub mod Exactly
pub mod Halves
mod InBlocks
mod KindFaults
pub mod Lowest
pub mod Place
pub mod Placed
pub mod Policy
mod Telling
pub mod Told
pub mod Tables
mod Turns
