pub mod Paged
pub mod Doing
pub mod Running
pub mod Reaching
pub mod Balance
pub mod Bounded
pub mod Finishing
pub mod Packed
