pub mod Ahead
pub mod Finding
pub mod Rows
pub mod Books
pub mod Runs
pub mod Trades
pub mod Imbalance
