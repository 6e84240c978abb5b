pub mod Readings
pub mod Replies
pub mod Stops
pub mod OneStep
pub mod NetReadings
pub mod NetReplies
pub mod Loads
pub mod Merges
pub mod Taken
pub mod Upgrades
mod Undos
