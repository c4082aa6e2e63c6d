pub mod Puts
pub mod Slots
pub mod Pieces
pub mod Requested
pub mod Minutes
pub mod Trips
pub mod Expected
pub mod Rows
