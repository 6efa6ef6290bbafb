pub mod ArrivalLaws
pub mod RoundTripProof
pub mod RowsLaws
