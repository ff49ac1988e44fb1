pub mod Asking
pub mod Circles
pub mod Grading
pub mod Lists
