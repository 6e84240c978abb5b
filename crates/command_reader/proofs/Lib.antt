pub mod Numbers
pub mod FileCommands
pub mod TakenWords
pub mod Entered
