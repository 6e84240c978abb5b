pub mod AnswerTouches
pub mod Laws
pub mod Replies
