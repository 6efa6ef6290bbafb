pub mod FindLaws
pub mod UpdateLaws
