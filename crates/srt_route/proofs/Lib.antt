pub mod model
pub mod stored
pub mod steps
pub mod renumbering
pub mod rows
