-- Definitions for proofs and internal functions. No public contract, law or document depends on them.
pub mod Entries
pub mod Slots
