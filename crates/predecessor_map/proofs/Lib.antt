mod BlockLaws
mod ChangeLaws
mod EntryLaws
mod LastLaws
mod TreeRanges
