pub mod Dice
pub mod Samples
