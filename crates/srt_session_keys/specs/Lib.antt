pub mod Announced
pub mod Limiter
pub mod Publisher
pub mod Source
pub mod Subscriber
pub mod Wrapping
pub mod inside
