-- Demand 3: hidden rows stay hidden over a whole sequence of calls.
pub mod Calls
pub mod Claim
