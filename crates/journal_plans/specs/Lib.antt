-- What the parts of the commands `watch` and `export` answer, and what they leave of a disk.
pub mod Stops
pub mod Adding
pub mod Keeping
pub mod Opening
pub mod Watching
