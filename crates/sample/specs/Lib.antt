-- The sample co-operative of document 01.
pub mod Pieces
pub mod Cooperative
pub mod Partners
pub mod Questions
pub mod Cases
pub mod TwoTables
