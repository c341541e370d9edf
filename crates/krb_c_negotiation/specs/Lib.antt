pub mod Numbers
pub mod Mechanisms
pub mod Sides
pub mod Beginning
pub mod Taking
pub mod Answering
