pub mod Spans
pub mod Floors
pub mod Sides
