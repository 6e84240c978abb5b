pub mod UndoLaws
pub mod Undoing
pub mod Wanted
