pub mod Counting
pub mod Distinct
pub mod Heads
pub mod Keeping
pub mod PollRules
pub mod Rows
pub mod Running
