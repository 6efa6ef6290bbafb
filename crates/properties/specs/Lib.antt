pub mod Decimals
pub mod Grammar
pub mod Lines
pub mod Properties
