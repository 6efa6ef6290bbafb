pub mod CodeProof
