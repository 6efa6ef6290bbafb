pub mod FrameGrammar
pub mod FrameLaws
pub mod MessageLaws
pub mod RunLaws
pub mod StepLaws
