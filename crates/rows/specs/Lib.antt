-- Tables: row reads, row updates, masked reads, reads with a map.
pub mod Run
pub mod Table
pub mod Reading
pub mod Updating
pub mod Masked
pub mod Mapped
pub mod Scan
pub mod Slots
pub mod Words
