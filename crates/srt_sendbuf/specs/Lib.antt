pub mod Sending
pub mod Outgoing
pub mod Marks
pub mod Places
pub mod Parts
pub mod Stands
pub mod OneByOne
pub mod inside
