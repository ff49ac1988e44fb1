pub mod Asked
pub mod Candidates
pub mod Filling
pub mod Members
pub mod Shares
