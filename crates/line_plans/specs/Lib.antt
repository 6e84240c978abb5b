-- What the parts of the commands `edit`, `merge` and `net` answer.
pub mod Edits
pub mod Inputs
pub mod Sources
pub mod Undos
pub mod Nets
pub mod Merging
