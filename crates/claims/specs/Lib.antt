-- Demand 3 of the C functions: what is called, what a caller sees, and the claim. `Reading` says when a session reads by its labels alone.
pub mod CFunctions
pub mod Reading
