pub mod Circuit
pub mod Planes
pub mod Transposing
pub mod Turns
