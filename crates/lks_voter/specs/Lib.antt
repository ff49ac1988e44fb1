pub mod Ending
pub mod States
pub mod Voting
