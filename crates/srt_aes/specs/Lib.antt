pub mod Aes
pub mod Counter
pub mod Keys
pub mod inside
