pub mod Computed
pub mod GapTests
pub mod NeededProof
pub mod WitnessProof
