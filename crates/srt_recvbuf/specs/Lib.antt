pub mod Receiving
pub mod OneByOne
pub mod Points
pub mod Cells
pub mod Stands
pub mod Changes
