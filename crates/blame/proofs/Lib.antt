mod Columns
mod Kept
mod Parts
