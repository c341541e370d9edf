pub mod TokenInfo
pub mod Flags
pub mod Principals
pub mod Times
