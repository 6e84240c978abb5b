pub mod Disk
pub mod Journal
pub mod Reading
pub mod Writing
pub mod MemDisk
pub mod Replay
pub mod LastingLaw
pub mod FoundLaw
