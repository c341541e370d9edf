pub mod OneReading
pub mod Quoting
pub mod Seconds
