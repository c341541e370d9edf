pub mod Pac
pub mod GssChecksum
pub mod Prefixed
pub mod Formats
pub mod Places
pub mod Shown
