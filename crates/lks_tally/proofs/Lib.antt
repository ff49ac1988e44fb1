pub mod Agreeing
pub mod Caching
pub mod Deciding
mod RowLaws
mod Steps
pub mod Voters
