pub mod Splits
pub mod Turns
pub mod Digits
pub mod LastParts
pub mod Fronts
