pub mod BareEvents
pub mod KeptRuns
pub mod Pieces
pub mod Rests
pub mod RunOps
pub mod Runs
pub mod Steps
pub mod Following
