pub mod Reading
pub mod Stepping
pub mod Fitting
pub mod Wells
