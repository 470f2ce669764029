pub mod Terms
pub mod Names
pub mod Limits
pub mod Sums
