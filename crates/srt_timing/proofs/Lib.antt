pub mod Moments
pub mod Corrected
pub mod Clocks
pub mod Rows
pub mod Places
pub mod Confirmed
pub mod Once
