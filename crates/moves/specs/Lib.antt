-- The moves of an image of edition 1: up to edition 2, and in edition 1 without COMPACCESS; and who holds it.
pub mod Moved
pub mod Holders
pub mod Moving
pub mod Parts
