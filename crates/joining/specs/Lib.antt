pub mod Book
pub mod Ends
pub mod Joining
pub mod Possible
pub mod Readings
