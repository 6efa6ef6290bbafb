pub mod EdgesProof
