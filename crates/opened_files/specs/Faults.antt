-- What a fault of a file says, as the finding that it is.
use Rattle.std.specs.Prelude.{Option, Some, None}
use Rattle.file_words.specs.FileFaults.{FileFinding}
use Rattle.file_words.specs.FileFaults as model
use Rattle.event_file.specs.declared.fault.FileFault.{FileFault}
use Rattle.event_file.specs.declared.fault.FileFault.TheVariants.{Short, BadMagic, BadVersion, BadDigest, BadRecord, TooMany, OutOfMemory}
use Rattle.event_file.specs.Faults.{kind_of}

-- the finding that a fault is; none for want of memory
abbrev pub finding_of : FileFault → Option FileFinding
finding_of (Short len) = Some (model.Short len)
finding_of BadMagic = Some model.BadMagic
finding_of (BadVersion version) = Some (model.BadVersion version)
finding_of (BadDigest stored found) = Some (model.BadDigest stored found)
finding_of (BadRecord offset kind) = Some (model.BadRecord offset (kind_of kind))
finding_of (TooMany count) = Some (model.TooMany count)
finding_of OutOfMemory = None
