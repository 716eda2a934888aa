-- Groups and their parents: what lies below a set of groups, and the paths by which the code finds it.
pub mod Forest
pub mod Below
pub mod Columns
pub mod SetRows
pub mod Users
pub mod UserRows
pub mod Paths
