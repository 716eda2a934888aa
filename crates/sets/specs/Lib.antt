pub mod Sets
pub mod Words
pub mod Groups
pub mod Transposed
