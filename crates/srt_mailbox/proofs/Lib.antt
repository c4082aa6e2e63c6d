pub mod Rights
pub mod Offers
pub mod Moves
pub mod Tokens
pub mod Turns
pub mod Syncs
pub mod SeatSyncs
mod Shown
