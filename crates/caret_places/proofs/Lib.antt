mod Along
mod Insertions
mod Standing
mod Versions
