pub mod Chains
pub mod Parents
pub mod Rights
pub mod Rows
