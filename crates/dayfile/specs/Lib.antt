pub mod Kinds
pub mod Words
pub mod Entries
pub mod Records
pub mod Faults
pub mod Reading
pub mod Files
pub mod Steps
