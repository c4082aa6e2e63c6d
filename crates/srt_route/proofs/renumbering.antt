-- Other sequence numbers, other timestamps and later times: bytes, packets, sessions, whole routes.
pub mod PlacedWords
pub mod ShiftedWords
pub mod ShiftedPackets
pub mod ShiftedHandshakes
pub mod ShiftedHeard
pub mod ShiftedOutput
pub mod ShiftedAnswers
pub mod Restamped
pub mod Relabelled
pub mod Renumbered
