pub mod IdLists
pub mod Meaning
pub mod NetLaws
pub mod Verbs
