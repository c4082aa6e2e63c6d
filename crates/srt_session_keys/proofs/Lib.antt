mod Limited
pub mod Delayed
mod Lengths
