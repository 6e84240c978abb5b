pub mod BothWays
pub mod FramingLaws
pub mod Joined
pub mod Journals
pub mod MergedFiles
pub mod Merges
pub mod Pasts
pub mod Upgrades
mod MergeTouches
mod GoodBehind
mod Received
mod Spoken
mod Brought
mod Alike
