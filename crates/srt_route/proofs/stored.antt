-- How a table represents its sessions: seats, stored sessions, and the buffers of two publishers.
pub mod TwoBuffers
pub mod Parts
pub mod Counting
pub mod Seats
pub mod Kept
pub mod KeptInOrder
pub mod Stored
pub mod Publishers
pub mod HeldKeys
