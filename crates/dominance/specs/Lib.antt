-- Two labels: dominance and merging.
pub mod TwoLabels
