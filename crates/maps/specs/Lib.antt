-- Maps of sessions: request R-4.
pub mod Map
pub mod Whole
pub mod Words
pub mod Calls
