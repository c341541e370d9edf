pub mod Lists
pub mod Seals
pub mod Zeros
pub mod Filled
pub mod Growing
mod SaltLists
mod KeyLists
mod Walks
