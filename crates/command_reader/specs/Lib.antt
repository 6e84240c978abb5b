-- What the words of a command line were read as.
pub mod Words
