pub mod Refusals
pub mod Pages
pub mod Found
pub mod Listed
pub mod Decoding
pub mod Decoded
