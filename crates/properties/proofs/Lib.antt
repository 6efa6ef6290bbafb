pub mod DecimalLaws
pub mod LifetimeLaws
pub mod LineLaws
pub mod PropertyGrammar
pub mod PropertyLaws
