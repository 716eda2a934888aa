-- What the C functions answer.
pub mod Answers
pub mod Labels
pub mod Sessions
pub mod Tables
pub mod TwoLabels
pub mod Moves
pub mod Maps
pub mod Writing
