-- The report's text, and its parts.
pub mod Lines
pub mod Parts
