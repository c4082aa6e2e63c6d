pub mod Numbers
pub mod Snoc
pub mod Progress
pub mod Fewer
