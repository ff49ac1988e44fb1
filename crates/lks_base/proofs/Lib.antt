pub mod FirstBlocks
pub mod PlanLaws
pub mod PlanBounds
