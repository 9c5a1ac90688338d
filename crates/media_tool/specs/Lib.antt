pub mod Feeding
pub mod Kept
pub mod Lines
pub mod Room
pub mod Run
pub mod Session
pub mod Words
