pub mod inside
pub mod Transcript
pub mod Ends
