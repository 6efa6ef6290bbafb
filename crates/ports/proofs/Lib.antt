pub mod PortLaws
pub mod SizeLaws
