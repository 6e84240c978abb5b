pub mod Accounts
pub mod Parts
pub mod Repeats
pub mod Versions
