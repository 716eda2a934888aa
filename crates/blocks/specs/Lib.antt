-- An image as blocks: its length, and each block's check and place.
pub mod Blocks
pub mod Columns
