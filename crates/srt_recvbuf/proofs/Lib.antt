pub mod OneByOne
pub mod Points
pub mod Places
pub mod Buffers
pub mod Runs
pub mod Rows
pub mod Unbroken
pub mod Passing
