pub mod Addresses
pub mod Clock
pub mod Held
pub mod Hints
pub mod Hosts
pub mod Pages
pub mod Times
pub mod Watching
