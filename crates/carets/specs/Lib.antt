pub mod SideLaws
pub mod Sides
