pub mod FormLaws
pub mod StateLaws
