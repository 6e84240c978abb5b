mod Along
mod Deletions
pub mod Letters
mod Missing
mod Ranges
mod Refusals
