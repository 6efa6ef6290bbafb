pub mod Sequences
pub mod Ticks
