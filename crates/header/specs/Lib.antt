-- The header of an image, and where by its counts the blocks and records stand.
pub mod Layout
pub mod Limits
pub mod Header
