pub mod Expired
