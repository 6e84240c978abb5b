use Rattle.std.proofs.Common.{take}
use Rattle.std.specs.List.{AllByRecursion}
use Rattle.ew_model.specs.Sound.{IsSoundId}
use Rattle.event_journal.proofs.sound.note_ids.Given as goal

abbrev pub invariant-loop-id : goal.invariant-loop-id
invariant-loop-id l = AllByRecursion IsSoundId (take l.id-index l.ids)
