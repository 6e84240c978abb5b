pub mod Moments
pub mod Torn
pub mod Lengths
pub mod Adding
pub mod FirstBatches
pub mod ReadBatches
pub mod Opening
pub mod Replay
pub mod Keeping
pub mod Lasting
mod Found
