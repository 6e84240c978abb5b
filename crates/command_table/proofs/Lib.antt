pub mod Framings
pub mod Openings
pub mod Sessions
pub mod VersionReading
