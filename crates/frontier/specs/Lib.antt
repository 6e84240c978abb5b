pub mod Chains
pub mod Heads
