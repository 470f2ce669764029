pub mod Sums
pub mod Bounded
