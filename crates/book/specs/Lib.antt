pub mod Orders
pub mod Passes
pub mod Sales
pub mod Quotes
pub mod Cuts
pub mod Books
pub mod Law
