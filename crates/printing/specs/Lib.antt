-- Labels as text.
pub mod Print
