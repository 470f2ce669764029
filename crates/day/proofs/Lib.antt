pub mod Answering
pub mod Joining
pub mod Postings
pub mod Carrying
