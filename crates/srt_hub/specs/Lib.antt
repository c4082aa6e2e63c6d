pub mod World
pub mod Hubs
pub mod Calls
pub mod Laws
pub mod Gateways
pub mod Refusals
pub mod inside
