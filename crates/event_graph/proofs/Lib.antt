pub mod Admitted
pub mod Ascending
mod CutBack
pub mod Places
pub mod Found
pub mod GoingOn
pub mod Rebuilt
pub mod Grown
mod HeadsReduced
pub mod Numbers
pub mod OneHead
pub mod Appended
pub mod NextAfter
pub mod IdRows
pub mod Lists
pub mod Counted
pub mod Kept
pub mod KnownByCuts
pub mod Soundness
pub mod RowLaws
pub mod Summing
pub mod Tails
pub mod Subgraphs
pub mod SpanEvents
pub mod MissingPlaces
pub mod Chains
