pub mod Exports
pub mod Layout
pub mod Values
