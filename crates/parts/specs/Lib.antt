pub mod Build
pub mod Numbers
pub mod Walk
