pub mod Contents
pub mod Results
pub mod Naming
