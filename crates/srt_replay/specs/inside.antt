-- Definitions that proofs and internal functions need. No public contract, law or document depends on them.
pub mod Parts
pub mod Pieces
pub mod Step
