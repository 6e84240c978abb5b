pub mod Labels
pub mod Entries
pub mod Blocks
pub mod Tables
pub mod Maps
