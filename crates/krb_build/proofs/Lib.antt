pub mod Bits
pub mod Known
pub mod Numbers
