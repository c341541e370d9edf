pub mod Implicit
pub mod ImplicitLaws
pub mod ObjectIdentifier
pub mod ObjectIdentifierLaws
pub mod ObjectIdentifierErrors
pub mod RawValue
