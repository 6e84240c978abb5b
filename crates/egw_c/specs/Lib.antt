pub mod Changes
pub mod Documents
pub mod Exports
pub mod Reading
pub mod Statuses
pub mod Words
