pub mod Blanks
pub mod Words
pub mod Machines
pub mod Marks
pub mod Dump
pub mod Pem
pub mod Headers
pub mod Forms
