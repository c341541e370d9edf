pub mod Errors
pub mod Flags
pub mod Mechanisms
pub mod Times
