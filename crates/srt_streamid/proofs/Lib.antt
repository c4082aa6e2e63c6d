pub mod Requested
pub mod Cuts
pub mod Exact
pub mod Anywhere
pub mod Places
pub mod Reported
