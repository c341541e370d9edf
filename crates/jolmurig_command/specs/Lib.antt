pub mod Words
pub mod Faults
pub mod Accepts
pub mod AcceptArguments
pub mod Shows
pub mod Arguments
