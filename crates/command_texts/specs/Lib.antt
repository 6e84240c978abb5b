-- What is told of received events, and what the reasons stand for.
pub mod Reasons
pub mod Told
