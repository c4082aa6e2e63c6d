pub mod inside
pub mod Commands
pub mod Statuses
pub mod Durations
