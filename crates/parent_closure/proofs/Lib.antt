pub mod Places
pub mod Searching
pub mod Steps
pub mod Gathering
pub mod Firsts
pub mod AllTags
pub mod Ascending
