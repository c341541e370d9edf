mod Checks
mod Closed
mod Refusals
mod Later
pub mod Firsts
pub mod SameKeys
pub mod Running
pub mod InitialRunning
pub mod ServiceRunning
