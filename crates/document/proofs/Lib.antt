pub mod Answered
pub mod Later
pub mod LaterTexts
pub mod Opened
pub mod Refused
