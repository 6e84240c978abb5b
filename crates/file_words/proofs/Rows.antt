-- Worked rows: what the definitions compute to.
mod File
mod FileFaults
mod FileRuns
