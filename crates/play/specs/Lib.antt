pub mod Lines
pub mod Pages
pub mod Endings
pub mod Runs
pub mod Plays
pub mod Steps
