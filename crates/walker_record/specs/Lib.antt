pub mod StretchLaws
pub mod Stretches
