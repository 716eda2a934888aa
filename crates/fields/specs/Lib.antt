-- What stands in a record's bytes: numbers, unused bytes and names; and the first place at which a rule fails.
pub mod Bytes
pub mod Names
pub mod Folded
pub mod Scan
