pub mod Words
pub mod Added
pub mod Laws
