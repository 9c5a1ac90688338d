pub mod Puts
pub mod Sorting
pub mod Told
