pub mod LogReading
pub mod Pieces
pub mod Counts
pub mod Logs
pub mod ReplayReading
