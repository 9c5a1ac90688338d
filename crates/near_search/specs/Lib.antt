pub mod Noting
pub mod Work
