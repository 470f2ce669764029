pub mod Bounds
pub mod Posting
pub mod Postable
pub mod Opening
pub mod Sums
pub mod Journals
pub mod Inside
pub mod Law
