pub mod IllFormed
pub mod Views
