pub mod ExportLaws
pub mod ValueLaws
