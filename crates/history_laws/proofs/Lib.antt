mod Accounts
mod Pairs
mod Turns
pub mod Answered
pub mod FirstRows
pub mod LastAnswers
pub mod Parts
pub mod Repeats
pub mod Settling
pub mod Thinning
mod VersionTexts
pub mod VersionHistories
mod HeldVersions
mod SeenRows
