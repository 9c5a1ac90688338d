pub mod Cleaned
pub mod ServiceLists
