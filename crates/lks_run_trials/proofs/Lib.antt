pub mod FreshDisks
pub mod Openings
pub mod Pairs
