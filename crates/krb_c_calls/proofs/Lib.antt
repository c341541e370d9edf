pub mod Buffers
pub mod Elements
pub mod FrameLengths
pub mod ReadAgain
pub mod Made
pub mod Places
pub mod FramedTokens
mod Domains
pub mod PlacedItems
mod RequestsMade
pub mod Answered
mod KeptAgain
mod KeptSums
mod Lengths
mod Refused
pub mod KindRows
