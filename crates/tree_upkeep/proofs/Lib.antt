pub mod Filling
pub mod Unmarking
