pub mod Faults
pub mod FreshRows
pub mod Sizes
pub mod Texts
