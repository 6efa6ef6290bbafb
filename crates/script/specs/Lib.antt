pub mod Lines
pub mod Messages
pub mod Numbers
pub mod Texts
