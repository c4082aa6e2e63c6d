-- Definitions that proofs and internal functions need. No public contract, law or document depends on them.
pub mod Names
pub mod Pacing
pub mod Words
