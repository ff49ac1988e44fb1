pub mod PlanLines
pub mod ListLines
pub mod CopyLines
