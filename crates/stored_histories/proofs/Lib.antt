pub mod Giving
pub mod GraphRecords
pub mod IdRuns
pub mod Runs
