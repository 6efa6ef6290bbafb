pub mod Bodies
pub mod Ports
