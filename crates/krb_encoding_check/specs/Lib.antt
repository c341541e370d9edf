pub mod Encodings
pub mod Contents
