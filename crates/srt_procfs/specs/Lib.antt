pub use Rattle.srt_journal.specs.Notes
pub mod Parts
pub mod Numbers
pub mod Signals
pub mod Drops
pub mod Memory
pub mod Process
pub mod Readings
