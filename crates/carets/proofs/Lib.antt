pub mod Held
pub mod Sides
pub mod UpTo
