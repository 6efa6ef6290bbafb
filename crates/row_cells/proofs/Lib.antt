pub mod FaultLaws
pub mod TextLaws
