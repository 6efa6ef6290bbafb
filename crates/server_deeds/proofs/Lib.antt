pub mod DuePlaceLaws
pub mod PlanLaws
