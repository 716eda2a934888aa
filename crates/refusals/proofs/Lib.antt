-- `Laws` has the laws of `specs/Refusals.antt`, for the proofs of the crates above.
pub mod Laws
pub mod Passed
pub mod Values
