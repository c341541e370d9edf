pub mod Verdict
pub mod Signature
pub mod Signatures
