pub mod Fields
pub mod Parts
pub mod Putting
pub mod PuttingLaws
pub mod ReplyText
