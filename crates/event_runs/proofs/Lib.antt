pub mod Cutting
pub mod Found
pub mod Kept
pub mod ManyEvents
pub mod Maximal
pub mod OneCut
mod OwnChanges
pub mod Rests
pub mod RunEvents
pub mod RunLines
pub mod StepOps
pub mod FollowedChains
