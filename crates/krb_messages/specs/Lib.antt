pub mod ApMessage
pub mod CodeText
pub mod Results
pub mod Frame
pub mod Rejected
