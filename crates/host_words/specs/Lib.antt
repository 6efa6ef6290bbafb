pub mod Answers
pub mod Clients
pub mod Servers
