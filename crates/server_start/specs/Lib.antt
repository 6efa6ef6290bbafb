pub mod Headers
