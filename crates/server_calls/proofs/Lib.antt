pub mod AnswerLaws
pub mod DueLaws
pub mod LengthLaws
pub mod QuietLaws
pub mod RunLaws
pub mod SnapshotLaws
