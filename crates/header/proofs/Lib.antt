pub mod Editions
pub mod Inside
