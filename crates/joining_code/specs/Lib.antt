pub mod Code
pub mod Runs
pub mod Sessions
