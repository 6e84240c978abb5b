pub mod CutRuns
pub mod KeptCuts
pub mod Older
pub mod Searches
pub mod Spans
