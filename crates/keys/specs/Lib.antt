pub mod Grammar
pub mod Keys
