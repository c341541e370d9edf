pub mod Told
pub mod Types
pub mod Choices
pub mod Pages
pub mod Files
pub mod CcachePlaces
pub mod KeytabPlaces
pub mod KeytabParts
