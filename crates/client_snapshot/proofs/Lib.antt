pub mod SnapshotLaws
