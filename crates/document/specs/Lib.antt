-- What a document's calls do and answer.
pub mod Documents
pub mod Reading
pub mod Talks
