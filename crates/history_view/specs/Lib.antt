pub mod LogLaw
pub mod ReplayLaw
