-- Bytes written over those of a lent buffer.
pub mod Pasting
pub mod Filling
