pub mod Comparing
pub mod InOrder
