pub mod XorLists
pub mod HmacSteps
pub mod Pbkdf2Steps
