pub mod Faults
pub mod Indexes
