-- What is known of an outside object at one moment: what it holds, where it tells that, and its counts.
use Rattle.std.specs.Prelude.{ℕ, List, Option}
use Rattle.ew_outside.specs.Files.{Files}

-- a shelf: its files, how many calls failed, how many loads found no file, how many loads were made, how many of them failed, the greatest
-- bound that a load asked for, and how many stores were made, but for those that memory ran out for
pub record ShelfSeen : Type 0 where
  pub files : Option Files
  pub faults : ℕ
  pub misses : ℕ
  pub loads : ℕ
  pub failed_loads : ℕ
  pub asked : ℕ
  pub stores : ℕ

-- a source: the bytes that are left, how many calls failed, and how many reads met the end of the input
pub record SourceSeen : Type 0 where
  pub left : Option (List ℕ)
  pub faults : ℕ
  pub ends : ℕ

-- a sink: the bytes that were taken, how many of them are flushed, and how many calls failed
pub record SinkSeen : Type 0 where
  pub taken : Option (List ℕ)
  pub flushed : Option ℕ
  pub faults : ℕ
