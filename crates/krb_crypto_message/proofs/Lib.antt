pub mod Deriving
pub mod DesParts
pub mod DesLaws
pub mod Messages
pub mod Opening
pub mod Sha2Messages
