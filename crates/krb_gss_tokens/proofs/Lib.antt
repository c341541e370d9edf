pub mod Readings
mod Sequences
pub mod Mic
mod Slices
mod Streams
pub mod Wrap
mod Retagging
mod Errors
mod KrbTokens
mod Proxies
mod OneErrors
