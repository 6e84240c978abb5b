pub mod Agents
pub mod OwnPositions
pub mod LastIds
pub mod Numbers
pub mod PositionLists
pub mod RunLists
