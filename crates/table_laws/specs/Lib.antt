pub mod FramingLaws
pub mod JournalLaws
pub mod MergeLaws
pub mod PastLaws
pub mod Sequences
pub mod UpgradeLaws
pub mod MergeTouches
pub mod Conversations
