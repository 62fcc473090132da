pub mod Graphs
pub mod Codes
pub mod Walks
pub mod Search
pub mod Tree
pub mod Theorems
pub mod Cases
