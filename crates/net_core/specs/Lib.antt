pub mod Answers
pub mod Bytes
pub mod Keeping
pub mod Laws
pub mod Handing
