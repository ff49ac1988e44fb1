pub mod StepRules
pub mod StepLines
pub mod Grammar
