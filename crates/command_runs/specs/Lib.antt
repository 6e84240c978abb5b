-- What is planned for a line, and how its run ends.
pub mod Endings
pub mod LineTouches
pub mod Lines
pub mod Listings
pub mod Making
