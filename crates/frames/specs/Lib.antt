pub mod Grammar
pub mod Messages
pub mod Runs
pub mod Steps
