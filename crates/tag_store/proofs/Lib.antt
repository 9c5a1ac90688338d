pub mod Keeping
pub mod LastRows
pub mod TagTexts
