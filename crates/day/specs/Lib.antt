pub mod Days
pub mod Calls
