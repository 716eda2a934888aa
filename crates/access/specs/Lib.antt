-- What a user may do with a label: rights, verdicts, the rules for new labels.
pub mod Rights
pub mod NewLabels
pub mod Verdicts
