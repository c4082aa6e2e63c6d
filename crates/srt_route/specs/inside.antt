-- Definitions that proofs and internal functions need. No public contract, law or document depends on them.
pub mod Reports
pub mod OneSession
pub mod Delivery
pub mod Standby
pub mod Calls
pub mod Files
pub mod Drains
pub mod GivingUp
pub mod Notes
pub mod Event
pub mod Secured
pub mod Encrypting
