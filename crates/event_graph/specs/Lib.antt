pub mod Afters
pub mod Finding
pub mod GoingOn
pub mod Joining
pub mod Keeping
pub mod Rows
pub mod Subgraphs
pub mod Tails
