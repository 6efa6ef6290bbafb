pub mod LineLaws
pub mod MessageLaws
pub mod NumberLaws
pub mod TextLaws
