pub mod Windows
pub mod Ranges
pub mod Lifts
pub mod WordBytes
pub mod Options
pub mod Limited
