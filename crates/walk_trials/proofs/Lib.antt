mod Held
mod LineCalls
mod Lines
pub mod Loaded
mod Totals
