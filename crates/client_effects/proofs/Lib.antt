pub mod CallLaws
pub mod CarryLaws
pub mod EffectLaws
pub mod PlanLaws
