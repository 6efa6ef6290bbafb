pub mod RequestLaws
pub mod RowLaws
