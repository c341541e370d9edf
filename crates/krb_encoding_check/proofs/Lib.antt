pub mod Contents
pub mod Walks
