pub mod Blame
pub mod BlameLaws
pub mod Pieces
pub mod Widths
