pub mod Ends
pub mod Configurations
