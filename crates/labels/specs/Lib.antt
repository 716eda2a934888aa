-- Labels and their text.
pub mod Label
pub mod GroupTest
pub mod Text
pub mod Tests
pub mod Parse
pub mod States
pub mod Lists
pub mod Hints
