-- What of a file was given, and ids that follow on each other.
pub mod Giving
pub mod IdRuns
