pub mod Hmac
pub mod Pbkdf2
pub mod Wrap
pub mod Held
