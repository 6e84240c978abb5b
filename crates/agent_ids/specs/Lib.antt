pub mod IdRuns
pub mod PositionRuns
pub mod Table
