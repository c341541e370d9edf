pub mod CryptoError
pub mod Xor
pub mod Hmac
pub mod Pbkdf2
pub mod Kdf
