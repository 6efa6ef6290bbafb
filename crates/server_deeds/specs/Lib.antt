pub mod DuePlaces
pub mod Plans
