pub mod Found
pub mod Which
pub mod Passing
