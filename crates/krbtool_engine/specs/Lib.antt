pub mod Failures
pub mod Commands
pub mod Arguments
pub mod Outcome
