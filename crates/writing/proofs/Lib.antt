-- Laws that several proofs use, and what the crates above may cite.
pub mod Sealed
pub mod Totals
pub mod Ended
pub mod ImageWritten
pub mod KindSteps
pub mod LentLayout
mod LentNumbers
mod LentRuns
pub mod Packed
pub mod Faults
pub mod FewRecords
pub mod HeaderFields
pub mod Placed
pub mod Counted
pub mod Sound
pub mod SoundLent
pub mod HeaderSound
pub mod ReadBack
pub mod RunParts
pub mod Runs
pub mod LowestRecord
pub mod ToldAlike
pub mod WrittenAccepted
pub mod RefusedAlike
pub mod Refusing
pub mod SameBytes
pub mod SameHeader
pub mod CountBytes
pub mod ClassTotals
pub mod LaidAgain
pub mod WrittenAgain
