mod FileTimes
mod Units
pub mod FirstLeft
pub mod Loops
