-- What is answered.
use Rattle.std.specs.Prelude.{◌≡◌, ⊤, ℕ, List, Some, Result, Ok, Err}
use Rattle.std.specs.Global.{Vec}
use Rattle.replica.specs.Answers.{refusal_of}
use Rattle.replica.specs.declared.fault.EditFault.{EditFault}
use Rattle.replica.specs.declared.fault.EditFault.TheVariants.{OutOfMemory}
use Rattle.peer_definitions.specs.Making.{Made, printed}
use Rattle.peer_definitions.specs.Making.Made.{Going, Stopped}

-- an edit was refused, for the reason that the fault tells; want of memory tells none
abbrev pub TellsStop : Made → EditFault → Type 0
TellsStop m OutOfMemory = ⊤
TellsStop (Stopped why) fault = refusal_of fault ≡ Some why
TellsStop (Going m) fault = ⊥

-- what was made is printed, or the reason told
abbrev pub Prints : Made → List ℕ → Type 0
Prints (Going m) bytes = bytes ≡ printed m.peers
Prints (Stopped why) bytes = ⊥

-- the history is printed, or the fault tells why it stopped
abbrev pub Makes : Made → Result (Vec ℕ) EditFault → Type 0
Makes m (Ok bytes) = Prints m bytes.items
Makes m (Err fault) = TellsStop m fault
