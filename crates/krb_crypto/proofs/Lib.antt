mod Digests
pub mod MessageKeys
pub mod Parts
