-- Definitions for proofs and internal functions: no public contract, law or document depends on them.
pub mod Steps
