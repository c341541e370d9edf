pub mod Toy
pub mod Steady
pub mod Paired
