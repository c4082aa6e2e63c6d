pub mod Deadline
pub mod Clock
pub mod Drift
pub mod RoundTrip
pub mod Book
pub mod inside
