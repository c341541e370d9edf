pub mod Retagging
pub mod ObjectIdentifiers
pub mod RawValues
