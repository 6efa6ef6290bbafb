pub mod IllFormed
pub mod Stamps
pub mod Views
