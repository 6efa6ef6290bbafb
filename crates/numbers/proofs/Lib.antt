pub mod SequenceLaws
