-- What the faults of this crate say, in the model's words.
use Rattle.std.specs.Prelude.{◌≡◌, Result, Ok, Err}
use Rattle.std.specs.Global.{Vec}
use Rattle.ew_model.specs.declared.event.Event.{Event}
use Rattle.file_words.specs.FileFaults as model
use Rattle.file_words.specs.FileFaults.{FileFinding}
use Rattle.event_file.specs.declared.fault.FileFault.{FileFault}
use Rattle.event_file.specs.declared.fault.FileFault.TheVariants.{Short, BadMagic, BadVersion, BadDigest, BadRecord, TooMany, OutOfMemory}
use Rattle.event_file.specs.declared.fault.RecordFault.{RecordFault}
use Rattle.event_file.specs.declared.fault.RecordFault.TheVariants.{Cut, NameBad, NameTwice, AgentNumber, IdTwice, ParentCount, ParentPosition, ParentOrder, KindBad, RunJoin, RunLength, Scalar, Trailing, UnusedAgent}

-- the model's word for a kind of fault
abbrev pub kind_of : RecordFault → model.RecordFault
kind_of Cut = model.Cut
kind_of NameBad = model.NameBad
kind_of NameTwice = model.NameTwice
kind_of AgentNumber = model.AgentNumber
kind_of IdTwice = model.IdTwice
kind_of ParentCount = model.ParentCount
kind_of ParentPosition = model.ParentPosition
kind_of ParentOrder = model.ParentOrder
kind_of KindBad = model.KindBad
kind_of RunJoin = model.RunJoin
kind_of RunLength = model.RunLength
kind_of Scalar = model.Scalar
kind_of Trailing = model.Trailing
kind_of UnusedAgent = model.UnusedAgent

-- the fault is what the definition finds; want of memory may come anywhere
abbrev pub IsFault : FileFault → FileFinding → Type 0
IsFault (Short len) found = found ≡ model.Short len
IsFault BadMagic found = found ≡ model.BadMagic
IsFault (BadVersion version) found = found ≡ model.BadVersion version
IsFault (BadDigest stored other) found = found ≡ model.BadDigest stored other
IsFault (BadRecord offset kind) found = found ≡ model.BadRecord offset (kind_of kind)
IsFault (TooMany count) found = found ≡ model.TooMany count
IsFault OutOfMemory found = Unit {0}

-- what is answered is what the definition finds
abbrev pub IsFound : Result (Vec Event) FileFault → FileFinding → Type 0
IsFound (Ok events) found = found ≡ model.IsFile events.items
IsFound (Err fault) found = IsFault fault found
