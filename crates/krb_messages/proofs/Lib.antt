pub mod CodeTexts
pub mod Frames
