pub mod SpanLists
pub mod PendingLists
pub mod Chains
pub mod Walks
pub mod Differences
