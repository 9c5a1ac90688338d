pub mod Cleaning
pub mod CleaningLaws
pub mod Equality
pub mod Following
pub mod ServiceLists
