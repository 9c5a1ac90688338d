pub mod AfterSearch
pub mod Found
pub mod Holders
pub mod Joined
pub mod Lists
pub mod Lookups
pub mod Meeting
pub mod NearPairs
