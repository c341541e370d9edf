pub mod Failing
pub mod SessionKeys
pub mod Replying
pub mod Errors
pub mod Seeds
pub mod Agreeing
pub mod Preparing
pub mod Each
