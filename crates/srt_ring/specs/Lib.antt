pub mod Buffers
pub mod Slots
pub mod Ring
