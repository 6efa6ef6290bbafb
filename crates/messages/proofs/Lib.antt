pub mod IdentityLaws
pub mod LengthLaws
pub mod RoundTrip
pub mod WriteLaws
