pub mod Kdc
pub mod Inside
