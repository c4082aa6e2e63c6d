pub mod Agreement
pub mod Parts
pub mod Sent
pub mod KeyPackets
pub mod Encrypted
