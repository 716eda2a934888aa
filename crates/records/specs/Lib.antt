-- The records of an image: what they hold, and the rules that each keeps.
pub mod Fields
pub mod Users
pub mod Existing
pub mod Rules
pub mod LabelRuns
pub mod ComponentRuns
pub mod LabelBlocks
pub mod Fresh
pub mod Kinds
