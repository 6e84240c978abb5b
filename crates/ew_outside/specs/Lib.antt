-- The words of the outside: counts, bytes, files, and what the forms in memory are seen as.
pub mod Counts
pub mod Bytes
pub mod Files
pub mod FileMap
pub mod Memory
pub mod Seen
pub mod Faults
pub mod Outputs
pub mod Refusals
