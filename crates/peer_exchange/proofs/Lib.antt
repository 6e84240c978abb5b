pub mod Ascending
pub mod Lengths
pub mod MissingLaw
pub mod PieceLaws
pub mod Refused
