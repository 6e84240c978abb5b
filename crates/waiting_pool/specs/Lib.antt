pub mod Faults
pub mod Keeping
pub mod Knowing
pub mod Places
pub mod Waiting
