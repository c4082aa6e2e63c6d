pub mod Bindings
pub mod Clocks
pub mod Ends
pub mod Reports
