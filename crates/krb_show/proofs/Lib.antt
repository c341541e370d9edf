mod Trees
pub mod Growing
pub mod Placed
mod Walks
pub mod PlaceLists
