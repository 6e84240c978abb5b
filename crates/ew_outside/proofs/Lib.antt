-- Lemmas of the outside.
pub mod NamedFiles
pub mod Outputs
