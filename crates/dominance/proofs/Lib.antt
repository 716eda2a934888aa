-- The laws of `specs/TwoLabels.antt`.
--     Compared   when two labels may be compared
--     Dominance  strict dominance, and that a label dominates itself
--     Merges     merges beside dominance
pub mod Compared
pub mod Dominance
pub mod Merges
