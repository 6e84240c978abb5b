pub mod Fitting
mod Making
mod Others
mod Rows
pub mod Scripts
mod Steps
pub mod Undos
pub mod Wants
