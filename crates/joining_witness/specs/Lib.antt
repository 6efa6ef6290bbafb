pub mod Kinds
pub mod Needed
pub mod Session
pub mod W1
pub mod Witness
