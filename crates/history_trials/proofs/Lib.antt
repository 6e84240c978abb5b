pub mod Below
pub mod Fronts
pub mod Touching
