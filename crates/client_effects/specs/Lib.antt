pub mod Carried
pub mod Plans
