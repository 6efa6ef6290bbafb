pub mod Edges
pub mod Outcomes
