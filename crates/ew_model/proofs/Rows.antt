-- Worked rows: what the definitions compute to.
pub mod Cuts
pub mod Edits
pub mod Events
pub mod Marks
pub mod Operations
pub mod Parts
pub mod Positions
pub mod Premises
pub mod Receiving
pub mod Scripts
pub mod Texts
