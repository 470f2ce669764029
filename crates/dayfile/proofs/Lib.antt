pub mod Prices
pub mod Faulty
pub mod Whole
pub mod Filed
pub mod Unique
