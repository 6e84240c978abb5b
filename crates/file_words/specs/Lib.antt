pub mod File
pub mod FileFaults
pub mod FileLaws
pub mod FileRunLaws
pub mod FileRuns
pub mod FileVersionLaws
pub mod FileVersions
