pub mod States
pub mod Machine
pub mod Steps
pub mod Examples
