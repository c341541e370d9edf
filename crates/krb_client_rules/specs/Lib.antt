pub mod InOrder
pub mod Names
pub mod Etypes
pub mod Times
pub mod Sizes
pub mod ReplyRules
pub mod PartRules
