pub mod WholeInput
pub mod Rows
pub mod FieldSteps
pub mod ErrorSteps
pub mod Streams
pub mod ReaderErrors
pub mod Choices
pub mod FieldNumbers
