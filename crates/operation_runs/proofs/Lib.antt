pub mod RunLaws
pub mod StoredLaws
