pub mod Fitting
pub mod Letters
