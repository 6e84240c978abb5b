-- What a file is opened as, and what a plan stands for.
pub mod Faults
pub mod Loading
pub mod Reads
pub mod Touches
pub mod Views
